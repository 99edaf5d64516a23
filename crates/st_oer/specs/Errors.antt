-- The numbers by which programs print refusals.
use Rattle.std.specs.Prelude.{ℕ, Option, None}
use Rattle.st_oer.specs.declared.error.OerError.{OerError}
use Rattle.st_oer.specs.declared.error.OerError.TheVariants.{Short, LongLength, LongNumber, TooBig, NoMemory}

-- each refusal has its own number
abbrev pub number : OerError → ℕ
number Short = 1
number LongLength = 2
number LongNumber = 3
number TooBig = 4
number NoMemory = 5

-- no refusal carries a further number
abbrev pub inner : OerError → Option ℕ
inner e = None
