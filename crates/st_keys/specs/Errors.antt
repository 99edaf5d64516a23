-- The numbers by which refusals are reported.
use Rattle.std.specs.Prelude.{ℕ, Option, Some, None}
use Rattle.st_frames.specs.Errors as frames
use Rattle.st_frames.specs.declared.error.FrameError.{FrameError}
use Rattle.st_frames.specs.declared.error.FrameError.TheVariants as fault
use Rattle.st_keys.specs.declared.error.KeyError.{KeyError}
use Rattle.st_keys.specs.declared.error.KeyError.TheVariants.{Short, Tag, Packet, NoMemory}

-- a refusal's own number
abbrev pub number : KeyError → ℕ
number Short = 30
number Tag = 31
number (Packet e) = 32
number NoMemory = 33

-- the number in brackets after it: of the packet's fault
abbrev pub inner : KeyError → Option ℕ
inner Short = None
inner Tag = None
inner (Packet e) = Some (frames.number e)
inner NoMemory = None

-- the refusal that a packet's fault becomes: out of memory stays that
abbrev pub wrapped : FrameError → KeyError
wrapped fault.NoMemory = NoMemory
wrapped e = Packet e
