-- The numbers by which programs print refusals.
use Rattle.std.specs.Prelude.{ℕ, Option, Some, None}
use Rattle.st_oer.specs.Errors as oer
use Rattle.st_oer.specs.declared.error.OerError.{OerError}
use Rattle.st_oer.specs.declared.error.OerError.TheVariants as fault
use Rattle.st_ilp.specs.declared.error.IlpError.{IlpError}
use Rattle.st_ilp.specs.declared.error.IlpError.TheVariants.{Oer, Kind, Expiry, Address, DataTooLong, NotUtf8, Code, Trailing, NoMemory}

-- each refusal has its own number
abbrev pub number : IlpError → ℕ
number (Oer e) = 10
number Kind = 11
number Expiry = 12
number Address = 13
number DataTooLong = 14
number NotUtf8 = 15
number Code = 16
number Trailing = 17
number NoMemory = 18

-- the number that a refusal carries in brackets: that of the fault in a spelling
abbrev pub inner : IlpError → Option ℕ
inner (Oer e) = Some (oer.number e)
inner Kind = None
inner Expiry = None
inner Address = None
inner DataTooLong = None
inner NotUtf8 = None
inner Code = None
inner Trailing = None
inner NoMemory = None

-- the refusal that a fault of a field becomes: out of memory stays that
abbrev pub wrapped : OerError → IlpError
wrapped fault.NoMemory = NoMemory
wrapped e = Oer e
