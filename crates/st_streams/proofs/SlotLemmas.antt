-- What a place of a list has after a place was set, and a stream in its slot.
use Rattle.std.proofs.Common.{◌≡◌, ◌≢◌, ℕ, zero, suc, ◌<◌, List, [], ◌∷◌, map, length, set, get_or, refl, sym, ap, arith, Option, None, Some, ◌⊎◌, inl, inr}
use Rattle.st_streams.specs.Slots.{Slots, slot, with_slot}

pub set_or : {A : Type 0} (xs : List A) (i : ℕ) (x d : A) (l : ℕ) → ((l ≡ i) × (get_or (set xs i x) i d ≡ x)) ⊎ (get_or (set xs i x) l d ≡ get_or xs l d)
set_or [] i x d l = inr refl
set_or (y ∷ ys) zero x d zero = inl (refl, refl)
set_or (y ∷ ys) zero x d (suc l) = inr refl
set_or (y ∷ ys) (suc i) x d zero = inr refl
set_or (y ∷ ys) (suc i) x d (suc l) = elim (set_or ys i x d l) [ inl h ↦ inl (ap suc h.0, h.1) | inr h ↦ inr h ]

pub set_here : {A : Type 0} (xs : List A) (i : ℕ) (x d : A) → i < length xs → get_or (set xs i x) i d ≡ x
set_here [] i x d h = absurd (omega arith)
set_here (y ∷ ys) zero x d h = refl
set_here (y ∷ ys) (suc i) x d h = set_here ys i x d (omega arith)

pub set_there : {A : Type 0} (xs : List A) (i : ℕ) (x d : A) (l : ℕ) → l ≢ i → get_or (set xs i x) l d ≡ get_or xs l d
set_there xs i x d l n = elim (set_or xs i x d l) [ inl h ↦ absurd (n h.0) | inr h ↦ h ]

-- a slot that was set is the new one, or it is as it was
pub slot_cases : {X : Type 0} (xs : Slots X) (k : ℕ) (x : X) (j : ℕ) → ((j ≡ k) × (slot (with_slot xs k x) k ≡ Some x)) ⊎ (slot (with_slot xs k x) j ≡ slot xs j)
slot_cases xs k x j = set_or xs k (Some x) None j

pub slot_here : {X : Type 0} (xs : Slots X) (k : ℕ) (x : X) → k < length xs → slot (with_slot xs k x) k ≡ Some x
slot_here xs k x h = set_here xs k (Some x) None h

pub slot_apart : {X : Type 0} (xs : Slots X) (k : ℕ) (x : X) (j : ℕ) → j ≢ k → slot (with_slot xs k x) j ≡ slot xs j
slot_apart xs k x j n = set_there xs k (Some x) None j n

pub slot_within : {X : Type 0} (xs : Slots X) (k : ℕ) (x : X) → slot xs k ≡ Some x → k < length xs
slot_within [] k x e = absurd (cc)
slot_within (y ∷ ys) zero x e = omega arith
slot_within (y ∷ ys) (suc k) x e = let h = slot_within ys k x e in omega arith

pub slot_map : {X : Type 0} (f : Option X → Option X) → f None ≡ None → (xs : Slots X) (k : ℕ) → slot (map f xs) k ≡ f (slot xs k)
slot_map f none [] k = sym none
slot_map f none (x ∷ xs) zero = refl
slot_map f none (x ∷ xs) (suc k) = slot_map f none xs k
