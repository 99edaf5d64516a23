-- What holds of each element at its place.
use Rattle.std.proofs.Common.{◌≡◌, ℕ, zero, suc, ◌+◌, List, [], ◌∷◌, ◌++◌, length, map, Some, slice_get, sym, ap, ◌∙◌, subst, arith}
use Rattle.std.specs.Prelude.{slice_index_or}
use Rattle.std.specs.Option.{option_map}
use Rattle.std.proofs.lemmas.List.{length-append}
use Rattle.std.proofs.lemmas.Option.{slice_get-map, get_or_from_slice_get}

abbrev pub Each : {A : Type 0} → (ℕ → A → Type 0) → List A → Type 0
Each {A} P xs = (k : ℕ) (x : A) → slice_get xs k ≡ Some x → P k x

pub each-push : {A : Type 0} (P : ℕ → A → Type 0) (xs : List A) (y : A) → Each P xs → P (length xs) y → Each P (xs ++ y ∷ [])
each-push P [] y h p zero x e = subst (P 0) (cc) p
each-push P [] y h p (suc k) x e = absurd (cc)
each-push P (z ∷ xs) y h p zero x e = h zero x e
each-push P (z ∷ xs) y h p (suc k) x e = each-push (λ n. P (suc n)) xs y (λ n. h (suc n)) p k x e

-- the value at a place of a mapped list
pub at_map : {A B : Type 0} (f : A → B) (xs : List A) (k : ℕ) (x : A) (d : B) → slice_get xs k ≡ Some x → slice_index_or (map f xs) k d ≡ f x
at_map f xs k x d e = get_or_from_slice_get (map f xs) k (f x) d (slice_get-map f xs k ∙ ap (option_map f) e)

-- one more at the end
pub each-grown : {A : Type 0} (P : ℕ → A → Type 0) (xs ys : List A) (n : ℕ) (y : A) → Each P xs → ys ≡ xs ++ y ∷ [] → n ≡ length xs → P n y → Each P ys
each-grown {A} P xs ys n y h grown at p = subst (λ (zs : List A). Each P zs) (sym grown) (each-push P xs y h (subst (λ k. P k y) at p))

-- and the length that goes with it
pub length_grown : {A : Type 0} (xs ys : List A) (old new n : ℕ) (y : A) → new ≡ length ys → ys ≡ xs ++ y ∷ [] → old ≡ length xs → old ≡ n → new ≡ n + 1
length_grown xs ys old new n y whole grown at is = omega (arith, ap length grown, length-append xs (y ∷ []))
