-- The numbers of refusals.
use Rattle.std.specs.Prelude.{ℕ, Option, Some, None}
use Rattle.st_oer.specs.Errors as oer
use Rattle.st_oer.specs.declared.error.OerError.{OerError}
use Rattle.st_oer.specs.declared.error.OerError.TheVariants as fault
use Rattle.st_frames.specs.declared.error.FrameError.{FrameError}
use Rattle.st_frames.specs.declared.error.FrameError.TheVariants.{Version, Kind, Oer, FrameFormat, TooLong, NoMemory}

-- a refusal's own number
abbrev pub number : FrameError → ℕ
number Version = 20
number Kind = 21
number (Oer e) = 22
number (FrameFormat index) = 23
number TooLong = 24
number NoMemory = 25

-- the number in brackets after it: of the fault in the numbers, or the frame's index
abbrev pub inner : FrameError → Option ℕ
inner Version = None
inner Kind = None
inner (Oer e) = Some (oer.number e)
inner (FrameFormat index) = Some index
inner TooLong = None
inner NoMemory = None

-- the refusal that a fault of a field becomes: out of memory stays that
abbrev pub wrapped : OerError → FrameError
wrapped fault.NoMemory = NoMemory
wrapped e = Oer e
