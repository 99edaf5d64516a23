-- A stream is changed at its place, and else nothing is.
use Rattle.std.proofs.Common.{◌≡◌, ◌≢◌, ℕ, zero, suc, ◌<◌, ◌≤◌, [], ◌∷◌, length, get_or, set, arith, refl, ap, sym, ◌∙◌, Option, Some, None}
use Rattle.std.proofs.lemmas.List.{set-get_or}
use Rattle.st_streams.specs.Slots.{Slots, slot}
use Rattle.st_sender.specs.Lanes.{SendStream, changed_lane, changed_to}
use Rattle.st_sender.proofs.Totals.{found_at}

pub lane_changed : (xs : Slots SendStream) (k : ℕ) (f : SendStream → SendStream) (o : Option SendStream) (x y : SendStream) → k < length xs → o ≡ get_or xs k o → o ≡ Some x → y ≡ f x → set xs k (Some y) ≡ changed_lane xs k f
lane_changed xs k f o x y lt at is to = ap (λ z. set xs k (Some z)) to ∙ sym (ap (changed_to xs k f) (found_at xs k o lt at ∙ is))

-- a place that was only read
pub lane_read : (xs : Slots SendStream) (k : ℕ) (o : Option SendStream) → o ≡ get_or xs k o → set xs k o ≡ xs
lane_read xs k o at = ap (set xs k) at ∙ set-get_or xs k o

pub lane_none : (xs : Slots SendStream) (k : ℕ) (f : SendStream → SendStream) (o : Option SendStream) → k < length xs → o ≡ get_or xs k o → o ≡ None → set xs k o ≡ changed_lane xs k f
lane_none xs k f o lt at is = lane_read xs k o at ∙ sym (ap (changed_to xs k f) (found_at xs k o lt at ∙ is))

pub past_none : (xs : Slots SendStream) (k : ℕ) → length xs ≤ k → slot xs k ≡ None
past_none [] k h = refl
past_none (x ∷ xs) zero h = absurd (omega arith)
past_none (x ∷ xs) (suc k) h = past_none xs k (omega arith)

pub lane_past : (xs : Slots SendStream) (k : ℕ) (f : SendStream → SendStream) → length xs ≤ k → xs ≡ changed_lane xs k f
lane_past xs k f h = sym (ap (changed_to xs k f) (past_none xs k h))

-- the stream that was found at a place
abbrev from_some : SendStream → Option SendStream → SendStream
from_some d None = d
from_some d (Some x) = x

pub same_lane : (xs : Slots SendStream) (k : ℕ) (o : Option SendStream) (x l : SendStream) → k < length xs → o ≡ get_or xs k o → o ≡ Some x → slot xs k ≡ Some l → x ≡ l
same_lane xs k o x l lt at is e = ap (from_some x) (sym is ∙ sym (found_at xs k o lt at) ∙ e)

none_some : (x : SendStream) → None ≢ Some x
none_some x e = absurd cc

pub no_lane : (xs : Slots SendStream) (k : ℕ) (o : Option SendStream) (l : SendStream) → k < length xs → o ≡ get_or xs k o → o ≡ None → slot xs k ≢ Some l
no_lane xs k o l lt at is e = none_some l (sym is ∙ sym (found_at xs k o lt at) ∙ e)
