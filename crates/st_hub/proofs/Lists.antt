-- Lists by their places.
use Rattle.std.proofs.Common.{◌≡◌, ℕ, zero, suc, ◌<◌, List, [], ◌∷◌, length, map, set, Some, slice_get, refl, ap, ◌∙◌, subst}
use Rattle.std.specs.Prelude.{slice_index_or}
use Rattle.std.specs.Option.{option_map}
use Rattle.std.proofs.lemmas.Option.{slice_get-map, get_or_from_slice_get, slice_get_read}

pub each_set : {A : Type 0} (P : ℕ → A → Type 0) (xs : List A) (i : ℕ) (y : A) → ((k : ℕ) (x : A) → slice_get xs k ≡ Some x → P k x) → P i y → (k : ℕ) (x : A) → slice_get (set xs i y) k ≡ Some x → P k x
each_set P [] i y h p k x e = h k x e
each_set P (z ∷ xs) zero y h p zero x e = subst (P 0) (cc) p
each_set P (z ∷ xs) zero y h p (suc k) x e = h (suc k) x e
each_set P (z ∷ xs) (suc i) y h p zero x e = h zero x e
each_set P (z ∷ xs) (suc i) y h p (suc k) x e = each_set (λ n. P (suc n)) xs i y (λ n. h (suc n)) p k x e

-- the value at a place of a mapped list
pub at_map : {A B : Type 0} (f : A → B) (xs : List A) (k : ℕ) (x : A) (d : B) → slice_get xs k ≡ Some x → slice_index_or (map f xs) k d ≡ f x
at_map f xs k x d e = get_or_from_slice_get (map f xs) k (f x) d (slice_get-map f xs k ∙ ap (option_map f) e)

-- what an index gave
pub found_at : {A : Type 0} (xs : List A) (k : ℕ) (x : A) → k < length xs → x ≡ slice_index_or xs k x → slice_get xs k ≡ Some x
found_at xs k x room is = slice_get_read xs (length xs) k x refl room is
