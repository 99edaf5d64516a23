-- Why an end refuses a call, by number. The numbers are this profile's own.
use Rattle.std.specs.Prelude.{ℕ, Option, None}
use Rattle.st_streams.specs.declared.end_error.EndError.{EndError}
use Rattle.st_streams.specs.declared.end_error.EndError.TheVariants.{NoStream, ConnectionFailed, Closed, Full, AmountTooLarge, NoMemory}

-- the number by which a refusal is known
abbrev pub number : EndError → ℕ
number NoStream = 50
number ConnectionFailed = 58
number Closed = 51
number Full = 52
number AmountTooLarge = 53
number NoMemory = 54

-- the number inside it: none has one
abbrev pub inner : EndError → Option ℕ
inner e = None
