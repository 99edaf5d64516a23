-- Maps whose keys are numbers, and lists by their places.
use Rattle.std.proofs.Common.{◌≡◌, ◌≢◌, ℕ, zero, suc, ◌+◌, Bool, List, [], ◌∷◌, ◌++◌, length, take, slice_get, refl, sym, ap, ◌∙◌, arith, Option, None, Some, ◌⊎◌, inl, inr, append_assoc, set}
use Rattle.std.specs.Ordering.{nat_cmp}
use Rattle.std.specs.FinMap as fmap
use Rattle.std.proofs.lemmas.Grind.{common_steps}
use Rattle.st_world_parts.specs.Sides.{IsPrefixOf}

pub get_here : {X : Type 0} (m : fmap.FinMap nat_cmp X) (k : ℕ) (x : X) → fmap.get (fmap.insert m k x) k ≡ Some x
get_here m k x = grind (arith, common_steps, fmap.gets)

pub get_apart : {X : Type 0} (m : fmap.FinMap nat_cmp X) (k : ℕ) (x : X) (q : ℕ) → q ≢ k → fmap.get (fmap.insert m k x) q ≡ fmap.get m q
get_apart m k x q n = grind (arith, common_steps, fmap.gets)

-- what is found after an insert is what was put, or what was there
pub got_insert : {X : Type 0} (m : fmap.FinMap nat_cmp X) (k : ℕ) (x : X) (q : ℕ) (y : X) → fmap.get (fmap.insert m k x) q ≡ Some y
    → ((q ≡ k) × (x ≡ y)) ⊎ (fmap.get m q ≡ Some y)
got_insert m k x q y e = grind (arith, common_steps, fmap.gets)

pub got_retain : {X : Type 0} (m : fmap.FinMap nat_cmp X) (p : ℕ → Bool) (q : ℕ) (y : X) → fmap.get (fmap.retain_keys m p) q ≡ Some y → fmap.get m q ≡ Some y
got_retain m p q y e = grind (arith, common_steps, fmap.gets, fmap.get-retain_keys)

-- Within W o xs: the bytes xs are those of W from o on
abbrev pub Within : List ℕ → ℕ → List ℕ → Type 0
Within w o xs = (i b : ℕ) → slice_get xs i ≡ Some b → slice_get w (o + i) ≡ Some b

pub got_append : {X : Type 0} (xs ys : List X) (i : ℕ) (b : X) → slice_get xs i ≡ Some b → slice_get (xs ++ ys) i ≡ Some b
got_append [] ys i b e = absurd (cc)
got_append (x ∷ xs) ys zero b e = e
got_append (x ∷ xs) ys (suc i) b e = got_append xs ys i b e

-- what is found in a list with one more at its end is that, or was there
pub got_push : {X : Type 0} (xs : List X) (x : X) (i : ℕ) (y : X) → slice_get (xs ++ x ∷ []) i ≡ Some y → (slice_get xs i ≡ Some y) ⊎ (x ≡ y)
got_push [] x zero y e = inr (cc)
got_push [] x (suc i) y e = absurd (cc)
got_push (z ∷ xs) x zero y e = inl e
got_push (z ∷ xs) x (suc i) y e = got_push xs x i y e

pub got_after : {X : Type 0} (xs ys : List X) (i : ℕ) → slice_get (xs ++ ys) (length xs + i) ≡ slice_get ys i
got_after [] ys i = ap (λ n. slice_get ys n) (omega arith)
got_after (x ∷ xs) ys i = let e : suc (length xs) + i ≡ suc (length xs + i) = omega arith in rw e (got_after xs ys i)

pub prefix_from_gets : (xs ys : List ℕ) → ((i b : ℕ) → slice_get xs i ≡ Some b → slice_get ys i ≡ Some b) → IsPrefixOf xs ys
prefix_from_gets [] ys h = (ys, refl)
prefix_from_gets (x ∷ xs) [] h = absurd (let e : ◌≡◌ {A = Option ℕ} None (Some x) = h zero x refl in cc)
prefix_from_gets (x ∷ xs) (y ∷ ys) h =
    let e : ◌≡◌ {A = Option ℕ} (Some y) (Some x) = h zero x refl in
    let rest = prefix_from_gets xs ys (λ i b. h (suc i) b) in
    let same : x ≡ y = cc in
    (rest.0, rw same (ap (λ l. y ∷ l) rest.1))

pub prefix_append : (xs ys more : List ℕ) → IsPrefixOf xs ys → IsPrefixOf xs (ys ++ more)
prefix_append xs ys more p = (p.0 ++ more, sym (append_assoc xs p.0 more) ∙ ap (λ l. l ++ more) p.1)

-- a prefix grows by the bytes that follow it
pub prefix_more : (r w xs : List ℕ) → IsPrefixOf r w → Within w (length r) xs → IsPrefixOf (r ++ xs) w
prefix_more r w xs p within =
    let next = prefix_from_gets xs p.0 (λ i b e. sym (got_after r p.0 i) ∙ ap (λ l. slice_get l (length r + i)) p.1 ∙ within i b e) in
    (next.0, append_assoc r xs next.0 ∙ ap (λ l. r ++ l) next.1 ∙ p.1)

pub got_take : {X : Type 0} (n : ℕ) (xs : List X) (i : ℕ) (b : X) → slice_get (take n xs) i ≡ Some b → slice_get xs i ≡ Some b
got_take zero xs i b e = absurd (cc)
got_take (suc n) [] i b e = e
got_take (suc n) (x ∷ xs) zero b e = e
got_take (suc n) (x ∷ xs) (suc i) b e = got_take n xs i b e

pub within_take : (w : List ℕ) (o n : ℕ) (xs : List ℕ) → Within w o xs → Within w o (take n xs)
within_take w o n xs h i b e = h i b (got_take n xs i b e)

-- in a list that is another, and in an empty one
pub found_in : {A : Type 0} (xs ys : List A) (j : ℕ) (p : A) → ys ≡ xs → slice_get ys j ≡ Some p → slice_get xs j ≡ Some p
found_in xs ys j p e h = rw e at h

pub none_in : {A : Type 0} (xs : List A) (j : ℕ) (p : A) → xs ≡ [] → slice_get xs j ≡ Some p → ⊥
none_in xs j p e h = let none : slice_get xs j ≡ None = ap (λ ys. slice_get ys j) e in cc

-- what is found after a place was set is what was put there, or was there
pub set_got : {A : Type 0} (xs : List A) (i : ℕ) (x : A) (j : ℕ) (y : A) → slice_get (set xs i x) j ≡ Some y → ((i ≡ j) × (x ≡ y)) ⊎ (slice_get xs j ≡ Some y)
set_got [] i x j y e = inr e
set_got (z ∷ xs) zero x zero y e = inl (refl, cc)
set_got (z ∷ xs) zero x (suc j) y e = inr e
set_got (z ∷ xs) (suc i) x zero y e = inr e
set_got (z ∷ xs) (suc i) x (suc j) y e = elim (set_got xs i x j y e) [ inl h ↦ inl (ap suc h.0, h.1) | inr h ↦ inr h ]
