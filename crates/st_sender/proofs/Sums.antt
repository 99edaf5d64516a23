-- The sum of the streams' ends.
use Rattle.std.proofs.Common.{◌≡◌, ◌≢◌, ℕ, zero, suc, ◌+◌, ◌-◌, ◌<◌, ◌≤◌, List, [], ◌∷◌, map, sum, refl, ap, ◌∙◌, arith, inl, inr}
use Rattle.std.specs.List.{range_with_len, fold}
use Rattle.std.proofs.lemmas.Bool.{cases_eq}
use Rattle.st_streams.specs.Slots.{Slots}
use Rattle.st_sender.specs.Sending.{Flight}
use Rattle.st_sender.specs.Allowed.{end_at, lane_ends}
use Rattle.st_sender.specs.Lanes.{SendStream}

fold_from : (a : ℕ) (xs : List ℕ) → fold ◌+◌ a xs ≡ a + sum xs
fold_from a [] = omega arith
fold_from a (x ∷ xs) = omega (arith, fold_from (a + x) xs, fold_from (0 + x) xs)

sum_more : (g : ℕ → ℕ) (first n : ℕ) → sum (map g (range_with_len first (suc n))) ≡ g first + sum (map g (range_with_len (first + 1) n))
sum_more g first n = omega (arith, fold_from (0 + g first) (map g (range_with_len (first + 1) n)))

abbrev pub sum_over : (ℕ → ℕ) → ℕ → ℕ → ℕ
sum_over g first n = sum (map g (range_with_len first n))

pub sum_same : (g h : ℕ → ℕ) (first n : ℕ) → ((k : ℕ) → first ≤ k → g k ≡ h k) → sum_over g first n ≡ sum_over h first n
sum_same g h first zero e = refl
sum_same g h first (suc n) e = let here = e first (omega arith) in let rest = sum_same g h (first + 1) n (λ k l. e k (omega arith)) in omega (arith, here, rest, sum_more g first n, sum_more h first n)

pub sum_rises : (g h : ℕ → ℕ) (first n : ℕ) → ((k : ℕ) → first ≤ k → g k ≤ h k) → sum_over g first n ≤ sum_over h first n
sum_rises g h first zero l = omega arith
sum_rises g h first (suc n) l = let here = l first (omega arith) in let rest = sum_rises g h (first + 1) n (λ k m. l k (omega arith)) in omega (arith, here, rest, sum_more g first n, sum_more h first n)

-- a summand is no more than the sum
pub sum_has : (g : ℕ → ℕ) (k first n : ℕ) → first ≤ k → k < first + n → g k ≤ sum_over g first n
sum_has g k first zero l m = absurd (omega arith)
sum_has g k first (suc n) l m = elim (cases_eq k first) [
  | inl same ↦ rw same (omega (arith, sum_more g first n))
  | inr apart ↦ omega (arith, sum_has g k (first + 1) n (omega arith) (omega arith), sum_more g first n)
]

-- one summand changed
pub sum_with : (g h : ℕ → ℕ) (k first n : ℕ) → first ≤ k → k < first + n → ((j : ℕ) → j ≢ k → h j ≡ g j) → sum_over h first n + g k ≡ sum_over g first n + h k
sum_with g h k first zero l m e = absurd (omega arith)
sum_with g h k first (suc n) l m e = elim (cases_eq k first) [
  | inl same ↦ (let rest = sum_same h g (first + 1) n (λ j b. e j (omega arith)) in rw same (omega (arith, rest, sum_more g first n, sum_more h first n)))
  | inr apart ↦ (let rest = sum_with g h k (first + 1) n (omega arith) (omega arith) e in let here = e first (omega arith) in omega (arith, rest, here, sum_more g first n, sum_more h first n))
]

pub ends_none : (lanes : Slots SendStream) (flights : List Flight) (n : ℕ) → lane_ends lanes flights n 0 ≡ 0
unfolding lane_ends
ends_none lanes flights n = refl

ends_more : (lanes : Slots SendStream) (flights : List Flight) (n m : ℕ) → lane_ends lanes flights n (suc m) ≡ end_at lanes flights n + lane_ends lanes flights (n + 1) m
unfolding lane_ends
ends_more lanes flights n m = sum_more (end_at lanes flights) n m

pub ends_next : (lanes : Slots SendStream) (flights : List Flight) (n : ℕ) → n < 65 → lane_ends lanes flights n (65 - n) ≡ end_at lanes flights n + lane_ends lanes flights (n + 1) (65 - (n + 1))
ends_next lanes flights n l = let e : 65 - n ≡ suc (65 - (n + 1)) = omega arith in ap (λ m. lane_ends lanes flights n m) e ∙ ends_more lanes flights n (65 - (n + 1))

pub ends_done : (lanes : Slots SendStream) (flights : List Flight) (n : ℕ) → 65 ≤ n → lane_ends lanes flights n (65 - n) ≡ 0
ends_done lanes flights n l = let e : 65 - n ≡ 0 = omega arith in ap (λ m. lane_ends lanes flights n m) e ∙ ends_none lanes flights n
