-- Why a world refuses, by number. The numbers are this profile's own.
use Rattle.std.specs.Prelude.{ℕ, Option, None}
use Rattle.st_world.specs.declared.fault.Fault.{Fault}
use Rattle.st_world.specs.declared.fault.Fault.TheVariants.{NoMemory, BadChain}

abbrev pub number : Fault → ℕ
number NoMemory = 77
number BadChain = 78

-- the number inside it: none has one
abbrev pub inner : Fault → Option ℕ
inner e = None
