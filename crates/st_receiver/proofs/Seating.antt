-- Runs of sequences: what each change of one leaves, and the set of their numbers.
use Rattle.std.proofs.Common.{◌≡◌, ◌≢◌, ◌↔◌, ℕ, zero, suc, ◌+◌, ◌-◌, ◌/◌, ◌<◌, ◌≤◌, Bool, true, false, ◌&&◌, ◌||◌, List, [], ◌∷◌, ◌++◌, length, set, get_or, insert, remove, inl, inr, refl, sym, ap, ◌∙◌, subst, arith, nat_eq, nat_le}
use Rattle.std.specs.List.{flat_map, range_with_len, list_any}
use Rattle.std.specs.Ordering.{nat_cmp, eq_by_cmp}
use Rattle.std.specs.Cmp.{nat_cmp_total}
use Rattle.std.specs.FinSet as fset
use Rattle.std.proofs.lemmas.Bool.{cases_eq}
use Rattle.std.proofs.lemmas.Bool.Decides.{nat_tests}
use Rattle.st_receiver.specs.declared.sequences.Run.{Run}
use Rattle.st_receiver.specs.Sequences.{is_in, is_among, numbers, set_of, Rise, IsPlace, IsMore, last_at, first_at}

or_swap : (a b c : Bool) → (a || (b || c)) ≡ (b || (a || c))
or_swap true true c = refl
or_swap true false c = refl
or_swap false b c = refl

or_assoc : (a b c : Bool) → ((a || b) || c) ≡ (a || (b || c))
or_assoc true b c = refl
or_assoc false b c = refl

or_true : (b : Bool) → (b || true) ≡ true
or_true true = refl
or_true false = refl

abbrev run : ℕ → ℕ → Run
run a b = record { first = a; last = b }

rise_from : (low low2 : ℕ) (rs : List Run) → (0 < length rs → low2 ≤ first_at rs 0) → Rise low rs → Rise low2 rs
rise_from low low2 [] l h = h
rise_from low low2 (r ∷ rs) l h = (l (omega arith), h.1, h.2)

-- the end of a run is no less than its start
pub rise_fits : (low : ℕ) (rs : List Run) (k : ℕ) → Rise low rs → k < length rs → first_at rs k ≤ last_at rs k
rise_fits low [] k h l = absurd (omega arith)
rise_fits low (r ∷ rs) zero h l = h.1
rise_fits low (r ∷ rs) (suc k) h l = rise_fits (r.last + 2) rs k h.2 (omega arith)

pub rise_low : (low : ℕ) (rs : List Run) (k : ℕ) → Rise low rs → k < length rs → low ≤ first_at rs k
rise_low low [] k h l = absurd (omega arith)
rise_low low (r ∷ rs) zero h l = h.0
rise_low low (r ∷ rs) (suc k) h l = let a = rise_low (r.last + 2) rs k h.2 (omega arith) in omega (arith, h.0, h.1, a)

-- a later run begins at least two past the end of an earlier one
pub rise_apart : (low : ℕ) (rs : List Run) (i k : ℕ) → Rise low rs → i < k → k < length rs → last_at rs i + 1 < first_at rs k
rise_apart low [] i k h l m = absurd (omega arith)
rise_apart low (r ∷ rs) i zero h l m = absurd (omega arith)
rise_apart low (r ∷ rs) zero (suc k) h l m = let a = rise_low (r.last + 2) rs k h.2 (omega arith) in omega (arith, a)
rise_apart low (r ∷ rs) (suc i) (suc k) h l m = rise_apart (r.last + 2) rs i k h.2 (omega arith) (omega arith)

-- ---- a run that is made longer at its end

longer_in : (a b s q : ℕ) → a ≤ b → b + 1 ≡ s → (nat_le a q && nat_le q s) ≡ (nat_eq q s || (nat_le a q && nat_le q b))
longer_in a b s q l e = grind (arith, nat_tests)

pub longer_rise : (low s : ℕ) (rs : List Run) (i : ℕ) → i < length rs → last_at rs i + 1 ≡ s → (suc i < length rs → s + 1 < first_at rs (suc i)) → Rise low rs → Rise low (set rs i (run (first_at rs i) s))
longer_rise low s [] i l e n h = absurd (omega arith)
longer_rise low s (r ∷ rs) zero l e n h = (h.0, omega (arith, h.1), rise_from (r.last + 2) (s + 2) rs (λ m. let a = n (omega arith) in omega (arith, a)) h.2)
longer_rise low s (r ∷ rs) (suc i) l e n h = (h.0, h.1, longer_rise (r.last + 2) s rs i (omega arith) e (λ m. n (omega arith)) h.2)

pub longer_among : (low s : ℕ) (rs : List Run) (i q : ℕ) → i < length rs → last_at rs i + 1 ≡ s → Rise low rs → is_among q (set rs i (run (first_at rs i) s)) ≡ (nat_eq q s || is_among q rs)
longer_among low s [] i q l e h = absurd (omega arith)
longer_among low s (r ∷ rs) zero q l e h = ap (λ b. b || is_among q rs) (longer_in r.first r.last s q h.1 e) ∙ or_assoc (nat_eq q s) (is_in q r) (is_among q rs)
longer_among low s (r ∷ rs) (suc i) q l e h = ap (λ b. is_in q r || b) (longer_among (r.last + 2) s rs i q (omega arith) e h.2) ∙ or_swap (is_in q r) (nat_eq q s) (is_among q rs)

-- ---- a run that is made longer in front

sooner_in : (a b s q : ℕ) → a ≤ b → s + 1 ≡ a → (nat_le s q && nat_le q b) ≡ (nat_eq q s || (nat_le a q && nat_le q b))
sooner_in a b s q l e = grind (arith, nat_tests)

pub sooner_rise : (low s : ℕ) (rs : List Run) (i : ℕ) → i < length rs → s + 1 ≡ first_at rs i → low ≤ s → ((k : ℕ) → k < i → last_at rs k + 1 < s) → Rise low rs → Rise low (set rs i (run s (last_at rs i)))
sooner_rise low s [] i l e m n h = absurd (omega arith)
sooner_rise low s (r ∷ rs) zero l e m n h = (m, omega (arith, h.1), h.2)
sooner_rise low s (r ∷ rs) (suc i) l e m n h = (h.0, h.1, sooner_rise (r.last + 2) s rs i (omega arith) e (let a = n 0 (omega arith) in omega (arith, a)) (λ k j. n (suc k) (omega arith)) h.2)

pub sooner_among : (low s : ℕ) (rs : List Run) (i q : ℕ) → i < length rs → s + 1 ≡ first_at rs i → Rise low rs → is_among q (set rs i (run s (last_at rs i))) ≡ (nat_eq q s || is_among q rs)
sooner_among low s [] i q l e h = absurd (omega arith)
sooner_among low s (r ∷ rs) zero q l e h = ap (λ b. b || is_among q rs) (sooner_in r.first r.last s q h.1 e) ∙ or_assoc (nat_eq q s) (is_in q r) (is_among q rs)
sooner_among low s (r ∷ rs) (suc i) q l e h = ap (λ b. is_in q r || b) (sooner_among (r.last + 2) s rs i q (omega arith) e h.2) ∙ or_swap (is_in q r) (nat_eq q s) (is_among q rs)

-- ---- a run of its own

alone_in : (s q : ℕ) → (nat_le s q && nat_le q s) ≡ nat_eq q s
alone_in s q = grind (arith, nat_tests)

pub alone_rise : (low s : ℕ) (rs : List Run) (i : ℕ) → i ≤ length rs → low ≤ s → ((k : ℕ) → k < i → last_at rs k + 1 < s) → (i < length rs → s + 1 < first_at rs i) → Rise low rs → Rise low (insert rs i (run s s))
alone_rise low s rs zero l m n f h = (m, omega arith, rise_from low (s + 2) rs (λ p. let a = f p in omega (arith, a)) h)
alone_rise low s [] (suc i) l m n f h = absurd (omega arith)
alone_rise low s (r ∷ rs) (suc i) l m n f h = (h.0, h.1, alone_rise (r.last + 2) s rs i (omega arith) (let a = n 0 (omega arith) in omega (arith, a)) (λ k j. n (suc k) (omega arith)) (λ p. f (omega arith)) h.2)

pub alone_among : (s : ℕ) (rs : List Run) (i q : ℕ) → i ≤ length rs → is_among q (insert rs i (run s s)) ≡ (nat_eq q s || is_among q rs)
alone_among s rs zero q l = ap (λ b. b || is_among q rs) (alone_in s q)
alone_among s [] (suc i) q l = absurd (omega arith)
alone_among s (r ∷ rs) (suc i) q l = ap (λ b. is_in q r || b) (alone_among s rs i q (omega arith)) ∙ or_swap (is_in q r) (nat_eq q s) (is_among q rs)

-- ---- two runs that become one

both_in : (a b c d s q : ℕ) → a ≤ b → c ≤ d → b + 1 ≡ s → s + 1 ≡ c → (nat_le a q && nat_le q d) ≡ (nat_eq q s || ((nat_le a q && nat_le q b) || (nat_le c q && nat_le q d)))
both_in a b c d s q l m e f = grind (arith, nat_tests)

or_three : (x a b c : Bool) → ((x || (a || b)) || c) ≡ (x || (a || (b || c)))
or_three true a b c = refl
or_three false true b c = refl
or_three false false b c = refl

pub both_rise : (low s : ℕ) (rs : List Run) (i : ℕ) → suc i < length rs → last_at rs i + 1 ≡ s → s + 1 ≡ first_at rs (suc i) → Rise low rs → Rise low (set (remove rs (suc i)) i (run (first_at rs i) (last_at rs (suc i))))
both_rise low s [] i l e f h = absurd (omega arith)
both_rise low s (r ∷ []) i l e f h = absurd (omega arith)
both_rise low s (r ∷ t ∷ rs) zero l e f h = (h.0, omega (arith, h.1, h.2.1), h.2.2)
both_rise low s (r ∷ t ∷ rs) (suc i) l e f h = (h.0, h.1, both_rise (r.last + 2) s (t ∷ rs) i (omega arith) e f h.2)

pub both_among : (low s : ℕ) (rs : List Run) (i q : ℕ) → suc i < length rs → last_at rs i + 1 ≡ s → s + 1 ≡ first_at rs (suc i) → Rise low rs → is_among q (set (remove rs (suc i)) i (run (first_at rs i) (last_at rs (suc i)))) ≡ (nat_eq q s || is_among q rs)
both_among low s [] i q l e f h = absurd (omega arith)
both_among low s (r ∷ []) i q l e f h = absurd (omega arith)
both_among low s (r ∷ t ∷ rs) zero q l e f h = ap (λ b. b || is_among q rs) (both_in r.first r.last t.first t.last s q h.1 h.2.1 e f) ∙ or_three (nat_eq q s) (is_in q r) (is_in q t) (is_among q rs)
both_among low s (r ∷ t ∷ rs) (suc i) q l e f h = ap (λ b. is_in q r || b) (both_among (r.last + 2) s (t ∷ rs) i q (omega arith) e f h.2) ∙ or_swap (is_in q r) (nat_eq q s) (is_among q (t ∷ rs))

-- ---- a sequence is in one run alone

pub none_behind : (low s : ℕ) (rs : List Run) → s < low → Rise low rs → is_among s rs ≡ false
none_behind low s [] l h = refl
none_behind low s (r ∷ rs) l h = ap (λ b. b || is_among s rs) (outside r.first r.last s (omega (arith, h.0))) ∙ none_behind (r.last + 2) s rs (omega (arith, h.0, h.1)) h.2
  where
    outside : (a b q : ℕ) → q < a → (nat_le a q && nat_le q b) ≡ false
    outside a b q l = grind (arith, nat_tests)

pub among_at : (low s : ℕ) (rs : List Run) (i : ℕ) → i < length rs → ((k : ℕ) → k < i → last_at rs k < s) → s ≤ last_at rs i → Rise low rs → is_among s rs ≡ nat_le (first_at rs i) s
among_at low s [] i l n m h = absurd (omega arith)
among_at low s (r ∷ rs) zero l n m h = ap (λ b. is_in s r || b) (none_behind (r.last + 2) s rs (omega (arith, m)) h.2) ∙ here r.first r.last s m
  where
    here : (a b q : ℕ) → q ≤ b → ((nat_le a q && nat_le q b) || false) ≡ nat_le a q
    here a b q l = grind (arith, nat_tests)
among_at low s (r ∷ rs) (suc i) l n m h = ap (λ b. b || is_among s rs) (past r.first r.last s (n 0 (omega arith))) ∙ among_at (r.last + 2) s rs i (omega arith) (λ k j. n (suc k) (omega arith)) m h.2
  where
    past : (a b q : ℕ) → b < q → (nat_le a q && nat_le q b) ≡ false
    past a b q l = grind (arith, nat_tests)

pub among_none : (s : ℕ) (rs : List Run) → ((k : ℕ) → k < length rs → last_at rs k < s) → is_among s rs ≡ false
among_none s [] n = refl
among_none s (r ∷ rs) n = ap (λ b. b || is_among s rs) (past r.first r.last s (n 0 (omega arith))) ∙ among_none s rs (λ k j. n (suc k) (omega arith))
  where
    past : (a b q : ℕ) → b < q → (nat_le a q && nat_le q b) ≡ false
    past a b q l = grind (arith, nat_tests)

-- ---- the set

any_append : (p : ℕ → Bool) (xs ys : List ℕ) → list_any p (xs ++ ys) ≡ (list_any p xs || list_any p ys)
any_append p [] ys = refl
any_append p (x ∷ xs) ys = ap (λ b. p x || b) (any_append p xs ys) ∙ sym (or_assoc (p x) (list_any p xs) (list_any p ys))

any_range : (q a n : ℕ) → list_any (λ y. nat_eq y q) (range_with_len a n) ≡ (nat_le a q && nat_le (q + 1) (a + n))
any_range q a zero = grind (arith, nat_tests)
any_range q a (suc n) = ap (λ b. nat_eq a q || b) (any_range q (a + 1) n) ∙ step
  where
    step : (nat_eq a q || (nat_le (a + 1) q && nat_le (q + 1) (a + 1 + n))) ≡ (nat_le a q && nat_le (q + 1) (a + suc n))
    step = grind (arith, nat_tests)

any_numbers : (q a b : ℕ) → a ≤ b → (nat_le a q && nat_le (q + 1) (a + (b + 1 - a))) ≡ (nat_le a q && nat_le q b)
any_numbers q a b l = grind (arith, nat_tests)

among_flat : (low q : ℕ) (rs : List Run) → Rise low rs → list_any (λ y. nat_eq y q) (flat_map numbers rs) ≡ is_among q rs
among_flat low q [] h = refl
among_flat low q (r ∷ rs) h =
    any_append (λ y. nat_eq y q) (numbers r) (flat_map numbers rs)
    ∙ ap (λ b. b || list_any (λ y. nat_eq y q) (flat_map numbers rs)) (any_range q r.first (r.last + 1 - r.first) ∙ any_numbers q r.first r.last h.1)
    ∙ ap (λ b. is_in q r || b) (among_flat (r.last + 2) q rs h.2)

pub contains_runs : (rs : List Run) (q : ℕ) → Rise 0 rs → fset.contains (set_of rs) q ≡ is_among q rs
unfolding set_of
contains_runs rs q h = fset.contains-from_list_nat (flat_map numbers rs) q ∙ among_flat 0 q rs h

pub set_of-nil : set_of [] ≡ fset.empty
unfolding set_of
set_of-nil = refl

same_test : (q s : ℕ) → nat_eq q s ≡ eq_by_cmp nat_cmp q s
same_test q s = grind (arith, nat_tests)

-- runs with one number more have the set with it
pub set_of_more : (rs ts : List Run) (s : ℕ) → Rise 0 rs → Rise 0 ts → ((q : ℕ) → is_among q ts ≡ (nat_eq q s || is_among q rs)) → set_of ts ≡ fset.insert (set_of rs) s
set_of_more rs ts s h k is = fset.same_set nat_cmp_total fset.nat_cmp-IsAntisymmetric (set_of ts) (fset.insert (set_of rs) s)
    (λ q. contains_runs ts q k ∙ is q ∙ ap (λ b. nat_eq q s || b) (sym (contains_runs rs q h)) ∙ ap (λ b. b || fset.contains (set_of rs) q) (same_test q s) ∙ sym (fset.contains-insert nat_cmp_total (set_of rs) s q))

-- ---- as the code reads runs

pub run_at : (rs : List Run) (i : ℕ) (r : Run) → i < length rs → r ≡ get_or rs i r → (r.first ≡ first_at rs i) × (r.last ≡ last_at rs i)
run_at [] i r l e = absurd (omega arith)
run_at (t ∷ rs) zero r l e = (ap (λ (x : Run). x.first) e, ap (λ (x : Run). x.last) e)
run_at (t ∷ rs) (suc i) r l e = run_at rs i r (omega arith) e

pub ends_rise : (rs : List Run) (i k : ℕ) → Rise 0 rs → i ≤ k → k < length rs → last_at rs i ≤ last_at rs k
ends_rise rs i k h l m = elim (cases_eq i k) [
  | inl e ↦ subst (λ j. last_at rs i ≤ last_at rs j) e (omega arith)
  | inr n ↦ let a = rise_apart 0 rs i k h (omega (arith, n)) m in let b = rise_fits 0 rs k h m in omega (arith, a, b)
]

pub half : (low high : ℕ) → low < high → low + (high - low) / 2 < high
half low high l = grind arith

pub among_here : (rs : List Run) (i s : ℕ) → IsPlace rs i s → i < length rs → is_among s rs ≡ nat_le (first_at rs i) s
among_here rs i s p l = among_at 0 s rs i l p.before (p.behind i (omega arith) l) p.rise

pub among_past : (rs : List Run) (i s : ℕ) → IsPlace rs i s → length rs ≤ i → is_among s rs ≡ false
among_past rs i s p l = among_none s rs (λ k m. p.before k (omega (arith, l, m)))

not_yet : (a b : ℕ) → nat_le a b ≡ false → b < a
not_yet a b e = grind (arith, nat_tests)

pub begins_later : (rs : List Run) (i s : ℕ) → IsPlace rs i s → is_among s rs ≡ false → i < length rs → s < first_at rs i
begins_later rs i s p f l = not_yet (first_at rs i) s (sym (among_here rs i s p l) ∙ f)

-- a sequence that is in no run, and right before none
begins_apart : (rs : List Run) (i s : ℕ) → IsPlace rs i s → is_among s rs ≡ false → (i < length rs → s + 1 ≢ first_at rs i) → i < length rs → s + 1 < first_at rs i
begins_apart rs i s p f n l = let later = begins_later rs i s p f l in let other = n l in omega (arith, later, other)

-- and right after none
ends_apart : (rs : List Run) (p s : ℕ) → IsPlace rs p s → (0 < p → last_at rs (p - 1) + 1 ≢ s) → (k : ℕ) → k < p → last_at rs k + 1 < s
ends_apart rs p s pl n k l =
    let within : p - 1 < length rs = let w = pl.within in omega (arith, w, l) in
    let rise = ends_rise rs k (p - 1) pl.rise (omega (arith, l)) within in
    let below = pl.before (p - 1) (omega (arith, l)) in
    let other = n (omega (arith, l)) in
    omega (arith, rise, below, other)

pub more_behind : (rs : List Run) (p s : ℕ) (r : Run) → IsPlace rs p s → is_among s rs ≡ false → 0 < p → last_at rs (p - 1) + 1 ≡ s → (p < length rs → s + 1 ≢ first_at rs p) → r ≡ get_or rs (p - 1) r → IsMore rs s (set rs (p - 1) (run r.first s))
more_behind rs zero s r pl f l e n at = absurd (omega arith)
more_behind rs (suc i) s r pl f l e n at =
    let j : suc i - 1 ≡ i = omega arith in
    let within : i < length rs = let w = pl.within in omega (arith, w) in
    let e2 : last_at rs i + 1 ≡ s = subst (λ n. last_at rs n + 1 ≡ s) j e in
    let same : r.first ≡ first_at rs i = (run_at rs i r within (subst (λ n. r ≡ get_or rs n r) j at)).0 in
    let to : set rs (suc i - 1) (run r.first s) ≡ set rs i (run (first_at rs i) s) = λ q. set rs (j q) (run (same q) s) in
    subst (IsMore rs s) (sym to) (record { rise = longer_rise 0 s rs i within e2 (begins_apart rs (suc i) s pl f n) pl.rise; among = λ q. longer_among 0 s rs i q within e2 pl.rise })

pub more_front : (rs : List Run) (p s : ℕ) (r : Run) → IsPlace rs p s → p < length rs → s + 1 ≡ first_at rs p → (0 < p → last_at rs (p - 1) + 1 ≢ s) → r ≡ get_or rs p r → IsMore rs s (set rs p (run s r.last))
more_front rs p s r pl l e n at =
    let same : r.last ≡ last_at rs p = (run_at rs p r l at).1 in
    subst (λ n. IsMore rs s (set rs p (run s n))) (sym same) (record { rise = sooner_rise 0 s rs p l e (omega arith) (ends_apart rs p s pl n) pl.rise; among = λ q. sooner_among 0 s rs p q l e pl.rise })

pub more_alone : (rs : List Run) (p s : ℕ) → IsPlace rs p s → is_among s rs ≡ false → (0 < p → last_at rs (p - 1) + 1 ≢ s) → (p < length rs → s + 1 ≢ first_at rs p) → IsMore rs s (insert rs p (run s s))
more_alone rs p s pl f n m = record { rise = alone_rise 0 s rs p pl.within (omega arith) (ends_apart rs p s pl n) (begins_apart rs p s pl f m) pl.rise; among = λ q. alone_among s rs p q pl.within }

kept_first : (rs : List Run) (i : ℕ) (r : Run) → suc i < length rs → r ≡ get_or (remove rs (suc i)) i r → r.first ≡ first_at rs i
kept_first [] i r l e = absurd (omega arith)
kept_first (t ∷ []) i r l e = absurd (omega arith)
kept_first (t ∷ u ∷ rs) zero r l e = ap (λ (x : Run). x.first) e
kept_first (t ∷ u ∷ rs) (suc i) r l e = kept_first (u ∷ rs) i r (omega arith) e

pub more_both : (rs : List Run) (p s : ℕ) (r next : Run) → IsPlace rs p s → 0 < p → last_at rs (p - 1) + 1 ≡ s → p < length rs → s + 1 ≡ first_at rs p → r ≡ get_or (remove rs p) (p - 1) r → next ≡ get_or rs p next → IsMore rs s (set (remove rs p) (p - 1) (run r.first next.last))
more_both rs zero s r next pl l e m f at away = absurd (omega arith)
more_both rs (suc i) s r next pl l e m f at away =
    let j : suc i - 1 ≡ i = omega arith in
    let e2 : last_at rs i + 1 ≡ s = subst (λ n. last_at rs n + 1 ≡ s) j e in
    let first : r.first ≡ first_at rs i = kept_first rs i r m (subst (λ n. r ≡ get_or (remove rs (suc i)) n r) j at) in
    let last : next.last ≡ last_at rs (suc i) = (run_at rs (suc i) next m away).1 in
    let to : set (remove rs (suc i)) (suc i - 1) (run r.first next.last) ≡ set (remove rs (suc i)) i (run (first_at rs i) (last_at rs (suc i))) = λ q. set (remove rs (suc i)) (j q) (run (first q) (last q)) in
    subst (IsMore rs s) (sym to) (record { rise = both_rise 0 s rs i m e2 f pl.rise; among = λ q. both_among 0 s rs i q m e2 f pl.rise })

pub one_apart : (a b : ℕ) → (nat_eq (b - a) 1 ≡ true) ↔ (a + 1 ≡ b)
one_apart a b = (λ e. there a b e, λ e. back a b e)
  where
    there : (a b : ℕ) → nat_eq (b - a) 1 ≡ true → a + 1 ≡ b
    there a b e = grind (arith, nat_tests)

    back : (a b : ℕ) → a + 1 ≡ b → nat_eq (b - a) 1 ≡ true
    back a b e = grind (arith, nat_tests)

pub set_of_same : (rs : List Run) (s : ℕ) → Rise 0 rs → is_among s rs ≡ true → set_of rs ≡ fset.insert (set_of rs) s
set_of_same rs s h f = set_of_more rs rs s h h (λ q. elim (cases_eq q s) [
  | inl e ↦ (let there : is_among q rs ≡ true = ap (λ k. is_among k rs) e ∙ f in there ∙ sym (ap (λ b. nat_eq q s || b) there ∙ or_true (nat_eq q s)))
  | inr n ↦ sym (ap (λ b. b || is_among q rs) (other q s n))
])
  where
    other : (q s : ℕ) → q ≢ s → nat_eq q s ≡ false
    other q s n = grind (arith, nat_tests)
