-- The numbers by which faults are known, and which devices count them.
use Rattle.std.specs.Prelude.{ℕ, Option, Some, None, Result, Ok, Err}
use Rattle.st_devices.specs.Faults.{count_after}
use Rattle.ilpstream_local.specs.declared.fault.LocalFault.{LocalFault}
use Rattle.ilpstream_local.specs.declared.fault.LocalFault.TheVariants.{Failed, TooLong, Input, Output, Turns, Events, NoMemory}

abbrev pub fault_number : LocalFault → ℕ
fault_number Failed = 58
fault_number TooLong = 84
fault_number Input = 90
fault_number Output = 91
fault_number Turns = 93
fault_number Events = 97
fault_number NoMemory = 99

-- the fault with which a call ended, if it did
abbrev pub fault_of : {T : Type 0} → Result T LocalFault → Option LocalFault
fault_of (Ok x) = None
fault_of (Err e) = Some e

-- a reader's count of errors after a call that ended with this fault or none: one more at a fault of the input alone
abbrev pub reader_faults : Option LocalFault → ℕ → ℕ
reader_faults (Some Input) count = count_after 1 count
reader_faults end count = count

-- a writer's: one more at a fault of the output alone
abbrev pub writer_faults : Option LocalFault → ℕ → ℕ
writer_faults (Some Output) count = count_after 1 count
writer_faults end count = count
