-- Which lines are written, and what is counted of the others.
use Rattle.std.specs.Prelude.{◌≡◌, ℕ, suc, ◌+◌, ◌*◌, ◌<◌, ◌≤◌, ◌==◌, min, if◌then◌else◌, List, [], ◌∷◌, Option, Some, None, MatchOption, slice_get, slice_set}
use Rattle.st_devices.specs.Faults.{count_after}
use Rattle.ilpstream_log.specs.Lines.{place_of}
use Rattle.ilpstream_log.specs.declared.event.Kind.{Kind}
use Rattle.ilpstream_log.specs.declared.pace.Left.{Left}
use Rattle.ilpstream_log.specs.declared.pace.Slot.{Slot as Counted}
use Rattle.ilpstream_log.specs.declared.pace.Verdict.{Verdict}
use Rattle.ilpstream_log.specs.declared.pace.Verdict.TheVariants.{Write, LeaveOut}

-- of one kind from one neighbour: the second of the last line, how many lines were written in it, and how many events were left
-- out since
abbrev pub Slot : Type 0
Slot = Counted

abbrev pub empty : Slot
empty = record { second = 0; written = 0; left = 0 }

-- how many lines were written in this second
abbrev pub written_in : Slot → (second : ℕ) → ℕ
written_in s second = if second == s.second then s.written else 0

-- An event in this second: its line is written if fewer than ten were, and `more` is the number that were left out before; otherwise
-- the event is left out and counted
abbrev pub Paces : Slot → (second : ℕ) → Verdict → Slot → Type 0
Paces old second (Write more) new =
    (written_in old second < 10) × (more ≡ old.left) × (new ≡ record { second = second; written = written_in old second + 1; left = 0 })
Paces old second LeaveOut new = (10 ≤ written_in old second) × (new ≡ record old { left = count_after 1 old.left })

-- those that were left out are reported
abbrev pub Tells : Slot → (count : ℕ) → Slot → Type 0
Tells old count new = (count ≡ old.left) × (new ≡ record old { left = 0 })

abbrev pub told_in : Option Left → ℕ
told_in None = 0
told_in (Some l) = l.count

-- the place at which a kind from a neighbour is counted: each has its own, but neighbours above the last share the last one's
abbrev pub slot_place : (last : ℕ) → Kind → (neighbour : ℕ) → ℕ
slot_place last k n = min n last * 14 + place_of k

-- the slot at a place changes so, and no other; without such a place none does, and this holds
abbrev pub ChangesAt : (place : ℕ) → (old new : List Slot) → (without : Type 0) → (Slot → Slot → Type 0) → Type 0
ChangesAt place old new without Changes = MatchOption (slice_get old place) ((new ≡ old) × without)
    (λ was. (is : Slot) × Changes was is × (new ≡ slice_set old place is))

-- ---- runs of events of one kind from one neighbour

-- these verdicts, one after another, to events in these seconds
abbrev pub Run : Slot → (seconds : List ℕ) → List Verdict → Slot → Type 0
Run old [] [] new = new ≡ old
Run old (second ∷ seconds) (v ∷ verdicts) new = (mid : Slot) × Paces old second v mid × Run mid seconds verdicts new
Run old [] (v ∷ verdicts) new = ⊥
Run old (second ∷ seconds) [] new = ⊥

-- the lines that were written
abbrev pub lines_in : List Verdict → ℕ
lines_in [] = 0
lines_in (Write more ∷ verdicts) = suc (lines_in verdicts)
lines_in (LeaveOut ∷ verdicts) = lines_in verdicts

-- the events that were reported as left out
abbrev pub told_left : List Verdict → ℕ
told_left [] = 0
told_left (Write more ∷ verdicts) = more + told_left verdicts
told_left (LeaveOut ∷ verdicts) = told_left verdicts
