-- Why a lossless run could not be played, by this profile's own numbers.
use Rattle.std.specs.Prelude.{ℕ, Option, None}
use Rattle.st_world_quiet.specs.declared.fault.Fault.{Fault}
use Rattle.st_world_quiet.specs.declared.fault.Fault.TheVariants.{NoMemory, BadInput}

abbrev pub number : Fault → ℕ
number NoMemory = 77
number BadInput = 78

-- the number inside it: none has one
abbrev pub inner : Fault → Option ℕ
inner e = None
