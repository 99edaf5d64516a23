-- Sums over the client's streams are sums over the lists that have an entry for each.
use Rattle.std.proofs.Common.{◌≡◌, ℕ, zero, suc, ◌+◌, ◌*◌, ◌/◌, ◌%◌, ◌<◌, ◌≤◌, true, false, List, [], ◌∷◌, length, map, replicate, sum, refl, ap, ◌∙◌, arith, ◌⊎◌, inl, inr, nat_eq}
use Rattle.std.specs.Prelude.{slice_index_or}
use Rattle.std.specs.List.{range_with_len}
use Rattle.std.proofs.lemmas.Bool.Decides.{nat_tests}
use Rattle.std.proofs.lemmas.List.{length-replicate}
use Rattle.std.proofs.lemmas.Nat.{div-mul-add, mod-mul-add}
use Rattle.st_world_quiet.proofs.Sums.{sum_next}
use Rattle.st_world_quiet.specs.Plays.{at_stream}

-- ---- an entry by the number of its stream

pub at_even : {A : Type 0} (xs : List A) (none : A) (i : ℕ) → at_stream xs none (2 * i) ≡ none
at_even xs none i =
    let even : (2 * i) % 2 ≡ 0 = ap (λ n. n % 2) (let z : 2 * i ≡ i * 2 + 0 = omega arith in z) ∙ mod-mul-add i 2 0 (omega arith) in
    let b : nat_eq ((2 * i) % 2) 1 ≡ false = grind (arith, nat_tests) in
    rw b refl

pub at_odd : {A : Type 0} (xs : List A) (none : A) (i : ℕ) → at_stream xs none (2 * i + 1) ≡ slice_index_or xs i none
at_odd xs none i =
    let turned : 2 * i + 1 ≡ i * 2 + 1 = omega arith in
    let odd : (2 * i + 1) % 2 ≡ 1 = ap (λ n. n % 2) turned ∙ mod-mul-add i 2 1 (omega arith) in
    let half : (2 * i + 1) / 2 ≡ i = ap (λ n. n / 2) turned ∙ div-mul-add i 2 1 (omega arith) in
    let b : nat_eq ((2 * i + 1) % 2) 1 ≡ true = grind (arith, nat_tests) in
    rw (b, half) refl

-- each number is one of these
pub halves : (k : ℕ) → (i : ℕ) × ((k ≡ 2 * i) ⊎ (k ≡ 2 * i + 1))
halves zero = (0, inl refl)
halves (suc k) =
    let h = halves k in
    elim h.1 [
      | inl even ↦ (h.0, inr (omega (arith, even)))
      | inr odd ↦ (h.0 + 1, inl (omega (arith, odd)))
    ]

pub past_all : (xs : List ℕ) (i : ℕ) → length xs ≤ i → slice_index_or xs i 0 ≡ 0
past_all [] i past = refl
past_all (x ∷ xs) zero past = absurd (omega (arith, past))
past_all (x ∷ xs) (suc i) past = past_all xs i (omega (arith, past))

-- ---- sums

-- a sum over all places, if the values at even ones are 0
odd_places : (f : ℕ → ℕ) → ((i : ℕ) → f (2 * i) ≡ 0) → (a m b n : ℕ) → b ≡ 2 * a → n ≡ 2 * m + 1 → sum (map f (range_with_len b n)) ≡ sum (map (λ i. f (2 * i + 1)) (range_with_len a m))
odd_places f none a m b zero from long = absurd (omega (arith, long))
odd_places f none a zero b (suc zero) from long = let here : f b ≡ 0 = ap f from ∙ none a in omega (arith, here, sum_next (f b) [])
odd_places f none a zero b (suc (suc n)) from long = absurd (omega (arith, long))
odd_places f none a (suc m) b (suc zero) from long = absurd (omega (arith, long))
odd_places f none a (suc m) b (suc (suc n)) from long =
    let g : ℕ → ℕ = λ i. f (2 * i + 1) in
    let even : f b ≡ 0 = ap f from ∙ none a in
    let odd : f (b + 1) ≡ f (2 * a + 1) = ap f (let z : b + 1 ≡ 2 * a + 1 = omega (arith, from) in z) in
    let rest = odd_places f none (a + 1) m (b + 1 + 1) n (omega (arith, from)) (omega (arith, long)) in
    let first = sum_next (f b) (map f (range_with_len (b + 1) (suc n))) in
    let second = sum_next (f (b + 1)) (map f (range_with_len (b + 1 + 1) n)) in
    let right = sum_next (f (2 * a + 1)) (map g (range_with_len (a + 1) m)) in
    omega (arith, even, odd, rest, first, second, right)

listed : (h : ℕ → ℕ) (ys : List ℕ) (a m : ℕ) → length ys ≤ m → ((i : ℕ) → h (a + i) ≡ slice_index_or ys i 0) → sum (map h (range_with_len a m)) ≡ sum ys
listed h [] a zero few is = refl
listed h (y ∷ ys) a zero few is = absurd (omega (arith, few))
listed h [] a (suc m) few is =
    let first : h a ≡ 0 = ap h (let z : a ≡ a + 0 = omega arith in z) ∙ is 0 in
    let rest = listed h [] (a + 1) m (omega arith) (λ i. ap h (let z : a + 1 + i ≡ a + suc i = omega arith in z) ∙ is (suc i)) in
    omega (arith, first, rest, sum_next (h a) (map h (range_with_len (a + 1) m)))
listed h (y ∷ ys) a (suc m) few is =
    let first : h a ≡ y = ap h (let z : a ≡ a + 0 = omega arith in z) ∙ is 0 in
    let rest = listed h ys (a + 1) m (omega (arith, few)) (λ i. ap h (let z : a + 1 + i ≡ a + suc i = omega arith in z) ∙ is (suc i)) in
    omega (arith, first, rest, sum_next (h a) (map h (range_with_len (a + 1) m)), sum_next y ys)

entry_mapped : {A : Type 0} (g : A → ℕ) (xs : List A) (none : A) (i : ℕ) → g none ≡ 0 → g (slice_index_or xs i none) ≡ slice_index_or (map g xs) i 0
entry_mapped g [] none i empty = empty
entry_mapped g (x ∷ xs) none zero empty = refl
entry_mapped g (x ∷ xs) none (suc i) empty = entry_mapped g xs none i empty

long_map : {A : Type 0} (g : A → ℕ) (xs : List A) → length (map g xs) ≡ length xs
long_map g [] = refl
long_map g (x ∷ xs) = let e = long_map g xs in omega (arith, e)

pub all_streams : {A : Type 0} (g : A → ℕ) (xs : List A) (none : A) → g none ≡ 0 → length xs ≤ 32 → sum (map (λ k. g (at_stream xs none k)) (range_with_len 0 65)) ≡ sum (map g xs)
all_streams g xs none empty few =
    odd_places (λ k. g (at_stream xs none k)) (λ i. ap g (at_even xs none i) ∙ empty) 0 32 0 65 refl refl
    ∙ listed (λ i. g (at_stream xs none (2 * i + 1))) (map g xs) 0 32 (let long = long_map g xs in omega (arith, long, few))
    (λ i. ap (λ j. g (at_stream xs none (2 * j + 1))) (let z : 0 + i ≡ i = omega arith in z) ∙ ap g (at_odd xs none i) ∙ entry_mapped g xs none i empty)

map_same : (xs : List ℕ) → map (λ x. x) xs ≡ xs
map_same [] = refl
map_same (x ∷ xs) = ap (λ ys. x ∷ ys) (map_same xs)

pub all_amounts : (xs : List ℕ) → length xs ≤ 32 → sum (map (λ k. at_stream xs 0 k) (range_with_len 0 65)) ≡ sum xs
all_amounts xs few = all_streams (λ x. x) xs 0 refl few ∙ ap sum (map_same xs)

-- ---- one for each of n streams

abbrev pub ones : ℕ → List ℕ
ones n = replicate n 1

pub one_of : (n i : ℕ) → i < n → at_stream (ones n) 0 (2 * i + 1) ≡ 1
one_of n i low = at_odd (ones n) 0 i ∙ entry n i low
  where
    entry : (n i : ℕ) → i < n → slice_index_or (ones n) i 0 ≡ 1
    entry zero i low = absurd (omega (arith, low))
    entry (suc n) zero low = refl
    entry (suc n) (suc i) low = entry n i (omega (arith, low))

pub all_ones : (n : ℕ) → n ≤ 32 → sum (map (λ k. at_stream (ones n) 0 k) (range_with_len 0 65)) ≡ n
all_ones n few = all_amounts (ones n) (let long = length-replicate {A = ℕ} n 1 in omega (arith, long, few)) ∙ count n
  where
    count : (n : ℕ) → sum (ones n) ≡ n
    count zero = refl
    count (suc n) = let rest = count n in omega (arith, rest, sum_next 1 (ones n))
