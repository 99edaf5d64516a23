-- A list that is written place by place.
use Rattle.std.proofs.Common.{◌≡◌, ℕ, zero, suc, ◌+◌, ◌<◌, Bool, true, false, ◌||◌, List, [], ◌∷◌, length, map, set, get_or, Option, None, refl, sym, ap, ◌∙◌, subst, arith}
use Rattle.std.proofs.lemmas.List.{get_or_read}
use Rattle.st_streams.specs.Slots.{Slots}
use Rattle.st_receiver.specs.Streams.{Incoming}
use Rattle.st_receiver.specs.Money.{with_credit, with_credits, is_over_max, any_over_max}
use Rattle.st_receiver.specs.Inside.{mix}

module _ {A : Type 0} where
  pub mix-none : (gs os : List A) → mix 0 gs os ≡ os
  unfolding mix
  mix-none gs os = refl

  mix-suc : (gs os : List A) (k : ℕ) (d : A) → length gs ≡ length os → k < length os → set (mix k gs os) k (get_or gs k d) ≡ mix (suc k) gs os
  unfolding mix
  mix-suc [] os k d e l = absurd (omega arith)
  mix-suc (g ∷ gs) [] k d e l = absurd (omega arith)
  mix-suc (g ∷ gs) (o ∷ os) zero d e l = refl
  mix-suc (g ∷ gs) (o ∷ os) (suc k) d e l = ap (λ xs. g ∷ xs) (mix-suc gs os k d (omega arith) (omega arith))

  -- one place more
  pub mix-more : (gs os : List A) (k : ℕ) (d : A) → length gs ≡ length os → k < length os → set (mix k gs os) k (get_or gs k d) ≡ mix (k + 1) gs os
  mix-more gs os k d e l = let n : suc k ≡ k + 1 = omega arith in mix-suc gs os k d e l ∙ ap (λ j. mix j gs os) n

  -- a place that is not yet written
  pub mix-at : (gs os : List A) (k : ℕ) (d : A) → get_or (mix k gs os) k d ≡ get_or os k d
  unfolding mix
  mix-at gs os zero d = refl
  mix-at [] os (suc k) d = refl
  mix-at (g ∷ gs) [] (suc k) d = refl
  mix-at (g ∷ gs) (o ∷ os) (suc k) d = mix-at gs os k d

  pub mix-all : (gs os : List A) → length gs ≡ length os → mix (length os) gs os ≡ gs
  unfolding mix
  mix-all [] [] e = refl
  mix-all [] (o ∷ os) e = absurd (omega arith)
  mix-all (g ∷ gs) [] e = absurd (omega arith)
  mix-all (g ∷ gs) (o ∷ os) e = ap (λ xs. g ∷ xs) (mix-all gs os (omega arith))

  pub length-mix : (k : ℕ) (gs os : List A) → length (mix k gs os) ≡ length os
  unfolding mix
  length-mix zero gs os = refl
  length-mix (suc k) [] os = refl
  length-mix (suc k) (g ∷ gs) [] = refl
  length-mix (suc k) (g ∷ gs) (o ∷ os) = ap suc (length-mix k gs os)

pub length-credits : (ss : Slots Incoming) (ps : List ℕ) → length (with_credits ss ps) ≡ length ss
length-credits [] ps = refl
length-credits (s ∷ ss) [] = refl
length-credits (s ∷ ss) (p ∷ ps) = ap suc (length-credits ss ps)

pub credit_at : (ss : Slots Incoming) (ps : List ℕ) (k : ℕ) → k < length ps → get_or (with_credits ss ps) k None ≡ with_credit (get_or ss k None) (get_or ps k 0)
credit_at ss [] k l = absurd (omega arith)
credit_at [] (p ∷ ps) k l = refl
credit_at (s ∷ ss) (p ∷ ps) zero l = refl
credit_at (s ∷ ss) (p ∷ ps) (suc k) l = credit_at ss ps k (omega arith)

either_false : (a b : Bool) → (a || b) ≡ false → (a ≡ false) × (b ≡ false)
either_false true b e = absurd cc
either_false false b e = (refl, e)

-- none is over, each by itself
pub fits_at : (ss : Slots Incoming) (ps : List ℕ) (k : ℕ) → any_over_max ss ps ≡ false → k < length ss → k < length ps → is_over_max (get_or ss k None) (get_or ps k 0) ≡ false
fits_at [] ps k e l m = absurd (omega arith)
fits_at (s ∷ ss) [] k e l m = absurd (omega arith)
fits_at (s ∷ ss) (p ∷ ps) zero e l m = (either_false (is_over_max s p) (any_over_max ss ps) e).0
fits_at (s ∷ ss) (p ∷ ps) (suc k) e l m = fits_at ss ps k (either_false (is_over_max s p) (any_over_max ss ps) e).1 (omega arith) (omega arith)

pub none_over : (ss : Slots Incoming) (ps : List ℕ) → length ps ≡ length ss → ((k : ℕ) → k < length ss → is_over_max (get_or ss k None) (get_or ps k 0) ≡ false) → any_over_max ss ps ≡ false
none_over [] ps e h = refl
none_over (s ∷ ss) [] e h = refl
none_over (s ∷ ss) (p ∷ ps) e h = ap (λ b. b || any_over_max ss ps) (h 0 (omega arith)) ∙ none_over ss ps (omega arith) (λ k l. h (suc k) (omega arith))

or_true : (b : Bool) → (b || true) ≡ true
or_true true = refl
or_true false = refl

pub some_over : (ss : Slots Incoming) (ps : List ℕ) (k : ℕ) → length ps ≡ length ss → k < length ss → is_over_max (get_or ss k None) (get_or ps k 0) ≡ true → any_over_max ss ps ≡ true
some_over [] ps k e l h = absurd (omega arith)
some_over (s ∷ ss) [] k e l h = absurd (omega arith)
some_over (s ∷ ss) (p ∷ ps) zero e l h = ap (λ b. b || any_over_max ss ps) h
some_over (s ∷ ss) (p ∷ ps) (suc k) e l h = ap (λ b. is_over_max s p || b) (some_over ss ps k (omega arith) (omega arith) h) ∙ or_true (is_over_max s p)

set-again : (ss : Slots Incoming) (k : ℕ) (a b : Option Incoming) → set (set ss k a) k b ≡ set ss k b
set-again [] k a b = refl
set-again (p ∷ ps) zero a b = refl
set-again (p ∷ ps) (suc k) a b = ap (λ r. p ∷ r) (set-again ps k a b)

-- a place is read, and written
pub read_place : (gs os items : Slots Incoming) (k : ℕ) (now : Option Incoming) → items ≡ mix k gs os → k < length os → now ≡ get_or items k now → now ≡ get_or os k None
read_place gs os items k now e l at =
    let within : k < length items = subst (λ n. k < n) (sym (ap length e ∙ length-mix k gs os)) l in
    get_or_read items k now within at None ∙ ap (λ xs. get_or xs k None) e ∙ mix-at gs os k None

pub write_place : (gs os items : Slots Incoming) (k : ℕ) (a b : Option Incoming) → items ≡ mix k gs os → length gs ≡ length os → k < length os → b ≡ get_or gs k None → set (set items k a) k b ≡ mix (k + 1) gs os
write_place gs os items k a b e len l is = set-again items k a b ∙ (λ i. set (e i) k (is i)) ∙ mix-more gs os k None len l

pub whole : (gs os items : Slots Incoming) (k : ℕ) → items ≡ mix k gs os → length gs ≡ length os → k ≡ length os → items ≡ gs
whole gs os items k e len end = e ∙ ap (λ j. mix j gs os) end ∙ mix-all gs os len

pub map_at : (f : Option Incoming → Option Incoming) (ss : Slots Incoming) (k : ℕ) → k < length ss → get_or (map f ss) k None ≡ f (get_or ss k None)
map_at f [] k l = absurd (omega arith)
map_at f (s ∷ ss) zero l = refl
map_at f (s ∷ ss) (suc k) l = map_at f ss k (omega arith)
