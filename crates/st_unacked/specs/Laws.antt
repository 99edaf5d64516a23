-- What an answer leaves at each offset, and that a failure gives back what a claim changed.
use Rattle.std.specs.Prelude.{◌≡◌, ◌↔◌, ℕ, ◌+◌, ◌<◌, ◌≤◌, Bool, true, false, ◌&&◌, if◌then◌else◌, None}
use Rattle.std.specs.FinMap.{get}
use Rattle.st_unacked.specs.Sent.{Sent, is_by, after_claim, after_acknowledged, after_failed}

-- t is s after a sequence's answer: what it carried is no longer in flight, and no longer unacknowledged if it was fulfilled
pub record Answers (sequence : ℕ) (fulfilled : Bool) (s t : Sent) : Type 0 where
  pub unacked : (q : ℕ) → get t.unacked q ≡ (if fulfilled && is_by sequence (get s.flying q) then None else get s.unacked q)
  pub flying : (q : ℕ) → get t.flying q ≡ (if is_by sequence (get s.flying q) then None else get s.flying q)
  pub accepted : t.accepted ≡ s.accepted

abbrev pub AcknowledgedIsPointwise : Type 0
AcknowledgedIsPointwise = (sequence : ℕ) (s t : Sent) → Answers sequence true s t ↔ (t ≡ after_acknowledged sequence s)

abbrev pub FailedIsPointwise : Type 0
FailedIsPointwise = (sequence : ℕ) (s t : Sent) → Answers sequence false s t ↔ (t ≡ after_failed sequence s)

-- a sequence carries nothing in s
abbrev pub IsFresh : ℕ → Sent → Type 0
IsFresh sequence s = (q : ℕ) → is_by sequence (get s.flying q) ≡ false

-- a claim by a fresh sequence, of offsets that are not in flight, leaves no trace once it fails
abbrev pub AClaimIsTakenBack : Type 0
AClaimIsTakenBack = (sequence from n : ℕ) (s : Sent) → IsFresh sequence s → ((q : ℕ) → from ≤ q → q < from + n → get s.flying q ≡ None) → after_failed sequence (after_claim sequence from n s) ≡ s
