-- The numbers by which faults are known.
use Rattle.std.specs.Prelude.{ℕ}
use Rattle.ilpstream_output.specs.declared.error.Fault.{Fault}
use Rattle.ilpstream_output.specs.declared.error.Fault.TheVariants as fault

abbrev pub fault_number : Fault → ℕ
fault_number fault.Input = 90
fault_number fault.Output = 91
fault_number fault.Turns = 93
fault_number fault.NoMemory = 99
