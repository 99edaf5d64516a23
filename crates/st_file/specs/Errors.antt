-- The numbers by which programs print refusals, and the number that a refusal carries.
use Rattle.std.specs.Prelude.{ℕ, min, Option, Some, Result, Ok, Err, ⊤}
use Rattle.st_devices.specs.Faults.{count_after, last_count}
use Rattle.st_file.specs.declared.error.FileError.{FileError}
use Rattle.st_file.specs.declared.error.FileError.TheVariants.{ReadFault, WriteFault, Aborted, Turns, NoMemory, Closed}

-- each refusal has its own number
abbrev pub number : FileError → ℕ
number (ReadFault bytes) = 90
number (WriteFault bytes) = 91
number (Aborted code bytes) = 92
number (Turns bytes) = 93
number (NoMemory bytes) = 94
number (Closed bytes) = 89

-- the first number that a refusal carries
abbrev pub inner : FileError → Option ℕ
inner (ReadFault bytes) = Some bytes
inner (WriteFault bytes) = Some bytes
inner (Aborted code bytes) = Some code
inner (Turns bytes) = Some bytes
inner (NoMemory bytes) = Some bytes
inner (Closed bytes) = Some bytes

-- a number of bytes as it is reported: it stays at the greatest number of 64 bits
abbrev pub counted : ℕ → ℕ
counted n = min n last_count

-- a device's count of errors after a call: one more if the call reports a fault of it, and the same otherwise
abbrev pub faults_reported : {T : Type 0} → Result T FileError → ℕ → ℕ
faults_reported (Ok x) count = count
faults_reported (Err (ReadFault bytes)) count = count_after 1 count
faults_reported (Err (WriteFault bytes)) count = count_after 1 count
faults_reported (Err (Aborted code bytes)) count = count
faults_reported (Err (Turns bytes)) count = count
faults_reported (Err (NoMemory bytes)) count = count
faults_reported (Err (Closed bytes)) count = count

-- the allowed calls were used up
abbrev pub IsTurns : FileError → Type 0
IsTurns (ReadFault bytes) = ⊥
IsTurns (WriteFault bytes) = ⊥
IsTurns (Aborted code bytes) = ⊥
IsTurns (Turns bytes) = ⊤
IsTurns (NoMemory bytes) = ⊥
IsTurns (Closed bytes) = ⊥
