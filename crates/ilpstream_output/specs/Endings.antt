-- How a command ended, and what was written by then.
use Rattle.std.specs.Prelude.{◌≡◌, ◌⊎◌, ℕ, ◌+◌, ◌-◌, ◌^◌, true, List, take, Option, Some, None, Result, Ok, Err}
use Rattle.std.specs.Io.KnownBytes.{Appends}
use Rattle.st_devices.specs.Faults.{count_after}
use Rattle.st_devices.specs.Tallies.{device_of, tally_of}
use Rattle.st_devices.specs.declared.counted.Counting.{Counting}
use Rattle.st_devices.specs.declared.tally.Tally.{Tally}
use Rattle.ilpstream_output.specs.declared.error.Fault.{Fault}
use Rattle.ilpstream_output.specs.declared.error.Fault.TheVariants as fault
use Rattle.ilpstream_output.specs.Errors.{fault_number}
use Rattle.ilpstream_output.specs.Texts.{fault_text}

-- the first bytes of a text were written, all of them or fewer
abbrev pub WritesPart : List ℕ → Option (List ℕ) → Option (List ℕ) → Type 0
WritesPart text before now = (sent : ℕ) × Appends before now (take sent text)

-- the fault with which a call ended, if it did
abbrev pub fault_of : {T : Type 0} → Result T Fault → Option Fault
fault_of (Ok x) = None
fault_of (Err e) = Some e

-- the reader's count of errors after a call that ended with this fault or none: one more at a fault of the input alone
abbrev pub reader_faults : Option Fault → ℕ → ℕ
reader_faults None count = count
reader_faults (Some fault.Input) count = count_after 1 count
reader_faults (Some fault.Output) count = count
reader_faults (Some fault.Turns) count = count
reader_faults (Some fault.NoMemory) count = count

-- the writer's: one more at a fault of the output alone
abbrev pub writer_faults : Option Fault → ℕ → ℕ
writer_faults None count = count
writer_faults (Some fault.Input) count = count
writer_faults (Some fault.Output) count = count_after 1 count
writer_faults (Some fault.Turns) count = count
writer_faults (Some fault.NoMemory) count = count

-- each call of the reader, r before and s now, and of the writer, w before and v now, used up one of the calls that were left, and nothing
-- else did
abbrev pub SpendsTurns : Tally → Tally → Tally → Tally → ℕ → ℕ → Type 0
SpendsTurns r s w v before after = (reads : ℕ) × (writes : ℕ) × (before ≡ after + reads + writes) × (s.calls ≡ count_after reads r.calls) × (v.calls ≡ count_after writes w.calls)

-- if nothing waited for a flush before, nothing does now
abbrev pub StaysFlushed : Tally → Tally → Type 0
StaysFlushed w v = w.flushed ≡ true → v.flushed ≡ true

-- how many calls of its reader and its writer a run makes at most, and then of its writer for errors
abbrev pub most_turns : ℕ
most_turns = 2 ^ 31 - 1

-- how a run ended, with this fault or none: what its reader, r before and s now, and its writer, w before and v now, counted
pub record HasEnded (r s w v : Tally) (end : Option Fault) : Type 0 where
  pub reader : s.faults ≡ reader_faults end r.faults
  pub writer : v.faults ≡ writer_faults end w.faults
  pub left : ℕ
  pub turns : SpendsTurns r s w v most_turns left
  pub used_up : end ≡ Some fault.Turns → left ≡ 0
  pub flushed : end ≡ None → StaysFlushed w v

-- a text was written whole and flushed, to the writer that was e before and is f now; or the first bytes of it, all of them
-- or fewer, and the writer counted an error or was called as often as a run may
abbrev pub Says : {E : Type 0} → List ℕ → (E → Option (List ℕ)) → Counting E → Counting E → Type 0
Says text said e f = (Appends (said (device_of e)) (said (device_of f)) text × StaysFlushed (tally_of e) (tally_of f))
    ⊎ (WritesPart text (said (device_of e)) (said (device_of f))
    × (((tally_of f).faults ≡ count_after 1 (tally_of e).faults) ⊎ ((tally_of f).calls ≡ count_after most_turns (tally_of e).calls)))

-- the status of a fault, of which the line was said
abbrev pub TellsFault : {E : Type 0} → Fault → (E → Option (List ℕ)) → Counting E → Counting E → ℕ → Type 0
TellsFault x said e f status = (status ≡ 1) × Says (fault_text (fault_number x)) said e f
