-- Calls that were counted one after another, and whose fault a call ended with.
use Rattle.std.proofs.Common.{◌≡◌, ℕ, ◌+◌, ◌-◌, ◌<◌, refl, ap, arith}
use Rattle.std.specs.Prelude.{◌≢◌, Option, Some, None, unwrap_or}
use Rattle.st_devices.specs.Faults.{count_after}
use Rattle.st_devices.specs.Tallies.{TakesTurns}
use Rattle.st_devices.specs.declared.tally.Tally.{Tally}
use Rattle.ilpstream_output.specs.declared.error.Fault.{Fault}
use Rattle.ilpstream_output.specs.declared.error.Fault.TheVariants as fault
use Rattle.ilpstream_output.specs.Endings.{HasEnded, SpendsTurns, StaysFlushed, most_turns, reader_faults, writer_faults}

pub spends_nothing : (r w : Tally) (n : ℕ) → SpendsTurns r r w w n n
spends_nothing r w n = (0, 0, omega arith, omega arith, omega arith)

-- then c calls of the writer
pub spends_writes : (r s w k v : Tally) (a b c : ℕ) → SpendsTurns r s w k a b → TakesTurns k v b c → SpendsTurns r s w v a c
spends_writes r s w k v a b c h writes = (h.0, h.1 + (b - c), omega (arith, h.2, writes.fewer), h.3, omega (arith, h.4, writes.calls, writes.fewer))

-- then a read, and c calls of the writer
pub spends_turn : (r m s w k v : Tally) (a b c : ℕ) → SpendsTurns r m w k a b → 0 < b → s.calls ≡ count_after 1 m.calls → TakesTurns k v (b - 1) c → SpendsTurns r s w v a c
spends_turn r m s w k v a b c h some read writes =
    (h.0 + 1, h.1 + (b - 1 - c), omega (arith, h.2, some, writes.fewer), omega (arith, h.3, read), omega (arith, h.4, writes.calls, writes.fewer))

-- a fault that is not the input's leaves the reader's count
pub not_the_reader : (e : Fault) (n : ℕ) → e ≢ fault.Input → n ≡ reader_faults (Some e) n
not_the_reader fault.Input n other = absurd (other refl)
not_the_reader fault.Output n other = refl
not_the_reader fault.Turns n other = refl
not_the_reader fault.NoMemory n other = refl

same_fault : (e f : Fault) → Some e ≡ Some f → e ≡ f
same_fault e f h = ap (λ (o : Option Fault). unwrap_or o e) h

-- a run that met no fault
pub ended_well : (r s w v : Tally) (left : ℕ) → s.faults ≡ r.faults → v.faults ≡ w.faults → SpendsTurns r s w v most_turns left → StaysFlushed w v → HasEnded r s w v None
ended_well r s w v left reader writer turns flushed = record { reader = reader; writer = writer; left = left; turns = turns; used_up = λ wrong. absurd (cc); flushed = λ _. flushed }

-- a run that met one
pub ended_by : (r s w v : Tally) (e : Fault) (left : ℕ) → s.faults ≡ reader_faults (Some e) r.faults → v.faults ≡ writer_faults (Some e) w.faults → SpendsTurns r s w v most_turns left
    → (e ≡ fault.Turns → left ≡ 0) → HasEnded r s w v (Some e)
ended_by r s w v e left reader writer turns used_up =
    record { reader = reader; writer = writer; left = left; turns = turns; used_up = λ is. used_up (same_fault e fault.Turns is); flushed = λ wrong. absurd (cc) }
