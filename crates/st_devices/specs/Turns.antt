-- What one call of a device did: to the bytes that are known of it, and to its tally.
use Rattle.std.specs.Prelude.{◌≡◌, ℕ, true, false, ◌<◌, ◌≤◌, List, [], length, take, Option, Result, Ok, Err}
use Rattle.std.specs.Io.KnownBytes.{Appends, Consumes, IsAtEnd, Keeps}
use Rattle.st_devices.specs.Faults.{count_after}
use Rattle.st_devices.specs.Tallies.{Completes, Fails, Interrupts}
use Rattle.st_devices.specs.declared.tally.Tally.{Tally}
use Rattle.st_devices.specs.declared.turn.ReadTurn.{ReadTurn}
use Rattle.st_devices.specs.declared.turn.ReadTurn.TheVariants as read
use Rattle.st_devices.specs.declared.turn.WriteTurn.{WriteTurn}
use Rattle.st_devices.specs.declared.turn.WriteTurn.TheVariants as write
use Rattle.st_devices.specs.declared.turn.FlushTurn.{FlushTurn}
use Rattle.st_devices.specs.declared.turn.FlushTurn.TheVariants as flush
use Rattle.st_devices.specs.declared.turn.PutError.{PutError}
use Rattle.st_devices.specs.declared.turn.PutError.TheVariants as put

-- one read into buf, which holds what was read: the bytes still to come are old before the call and new after it
abbrev pub DidRead : Option (List ℕ) → Option (List ℕ) → Tally → Tally → List ℕ → ReadTurn → Type 0
DidRead old new t u buf (read.Bytes n) = (n ≤ length buf) × Consumes old new (take n buf) × (0 < length buf → 0 < n) × Completes t u × (u.flushed ≡ t.flushed)
DidRead old new t u buf read.End = (0 < length buf) × Consumes old new [] × IsAtEnd new × Completes t u × (u.flushed ≡ t.flushed)
DidRead old new t u buf read.Again = Keeps old new × Interrupts t u
DidRead old new t u buf read.Fault = Keeps old new × Fails t u

-- one write of buf: the bytes written so far are old before the call and new after it
abbrev pub DidWrite : Option (List ℕ) → Option (List ℕ) → Tally → Tally → List ℕ → WriteTurn → Type 0
DidWrite old new t u buf (write.Moved n) = (n ≤ length buf) × Appends old new (take n buf) × Completes t u × (u.flushed ≡ false)
DidWrite old new t u buf write.Again = Keeps old new × Interrupts t u
DidWrite old new t u buf write.Fault = Keeps old new × Fails t u

-- one flush, which writes no bytes of its own
abbrev pub DidFlush : Option (List ℕ) → Option (List ℕ) → Tally → Tally → FlushTurn → Type 0
DidFlush old new t u flush.Done = Keeps old new × Completes t u × (u.flushed ≡ true)
DidFlush old new t u flush.Again = Keeps old new × Interrupts t u
DidFlush old new t u flush.Fault = Keeps old new × Fails t u

-- how many bytes were written before the error
abbrev pub sent : PutError → ℕ
sent (put.Fault n) = n
sent (put.Turns n) = n

-- the error is the device's
abbrev pub IsFault : PutError → Type 0
IsFault (put.Fault n) = Unit {0}
IsFault (put.Turns n) = ⊥

-- the number of calls was used up
abbrev pub IsTurns : PutError → Type 0
IsTurns (put.Fault n) = ⊥
IsTurns (put.Turns n) = Unit {0}

-- the count of errors after a text was put: one more at a fault, and at a fault alone
abbrev pub faults_after : {T : Type 0} → Result T PutError → ℕ → ℕ
faults_after (Ok x) count = count
faults_after (Err (put.Fault n)) count = count_after 1 count
faults_after (Err (put.Turns n)) count = count
