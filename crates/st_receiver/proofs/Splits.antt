-- The shares of a packet, and the parts of its amount.
use Rattle.std.proofs.Common.{◌≡◌, ℕ, zero, suc, ◌+◌, ◌-◌, ◌*◌, ◌/◌, ◌<◌, ◌≤◌, Bool, true, false, cond, List, [], ◌∷◌, length, map, set, get_or, refl, sym, ap, ◌∙◌, subst, arith, nat_eq, inl, inr}
use Rattle.std.specs.Prelude.{sum, replicate}
use Rattle.std.specs.List.{range_with_len}
use Rattle.std.proofs.lemmas.Bool.Decides.{nat_tests}
use Rattle.std.proofs.lemmas.Bool.{cases_eq}
use Rattle.std.proofs.lemmas.Grind.{common_steps}
use Rattle.std.proofs.lemmas.List.{get_or-set_same, get_or-set_other, length-set}
use Rattle.st_frames.specs.Frames.{Known, frame_of, CloseFrame, OtherFrame, LimitFrame, BlockedFrame, StreamMoney, StreamData}
use Rattle.st_frames.specs.Told.{money_of, money_in, shares}
use Rattle.st_receiver.specs.Money.{rounded, with_rest, parts}
use Rattle.st_receiver.specs.Inside.{with_shares, with_all_shares}

pub sum-cons : (x : ℕ) (xs : List ℕ) → sum (x ∷ xs) ≡ x + sum xs
sum-cons x xs = grind (arith, common_steps)

-- ---- sums of lists

pub sum-set : (ms : List ℕ) (k n : ℕ) → k < length ms → sum (set ms k (get_or ms k 0 + n)) ≡ sum ms + n
sum-set [] k n l = absurd (omega arith)
sum-set (m ∷ ms) zero n l = let a = sum-cons (m + n) ms in let b = sum-cons m ms in omega (arith, a, b)
sum-set (m ∷ ms) (suc k) n l = let h = sum-set ms k n (omega arith) in let a = sum-cons m (set ms k (get_or ms k 0 + n)) in let b = sum-cons m ms in omega (arith, h, a, b)

pub at_most_sum : (ms : List ℕ) (k : ℕ) → get_or ms k 0 ≤ sum ms
at_most_sum [] k = omega arith
at_most_sum (m ∷ ms) zero = let b = sum-cons m ms in omega (arith, b)
at_most_sum (m ∷ ms) (suc k) = let h = at_most_sum ms k in let b = sum-cons m ms in omega (arith, h, b)

-- ---- the shares of all frames

set_grows : (ms : List ℕ) (k n : ℕ) → sum ms ≤ sum (set ms k (get_or ms k 0 + n))
set_grows [] k n = omega arith
set_grows (m ∷ ms) zero n = let a = sum-cons (m + n) ms in let b = sum-cons m ms in omega (arith, a, b)
set_grows (m ∷ ms) (suc k) n = let h = set_grows ms k n in let a = sum-cons m (set ms k (get_or ms k 0 + n)) in let b = sum-cons m ms in omega (arith, h, a, b)

shares_grow : (ms : List ℕ) (f : Known) → sum ms ≤ sum (with_shares ms f)
shares_grow ms (StreamMoney k n) = set_grows ms k n
shares_grow ms (StreamData k o xs) = omega arith
shares_grow ms (CloseFrame c) = omega arith
shares_grow ms (OtherFrame o) = omega arith
shares_grow ms (LimitFrame l) = omega arith
shares_grow ms (BlockedFrame b) = omega arith

pub all_grow : (ms : List ℕ) (fs : List Known) → sum ms ≤ sum (with_all_shares ms fs)
unfolding with_all_shares
all_grow ms [] = omega arith
all_grow ms (f ∷ fs) = let a = shares_grow ms f in let b = all_grow (with_shares ms f) fs in omega (arith, a, b)

pub shares-cons : (ms : List ℕ) (f : Known) (fs : List Known) → with_all_shares ms (f ∷ fs) ≡ with_all_shares (with_shares ms f) fs
unfolding with_all_shares
shares-cons ms f fs = refl

pub shares-nil : (ms : List ℕ) → with_all_shares ms [] ≡ ms
unfolding with_all_shares
shares-nil ms = refl

length-shares : (ms : List ℕ) (f : Known) → length (with_shares ms f) ≡ length ms
length-shares ms (StreamMoney k n) = length-set ms k (get_or ms k 0 + n)
length-shares ms (StreamData k o xs) = refl
length-shares ms (CloseFrame c) = refl
length-shares ms (OtherFrame o) = refl
length-shares ms (LimitFrame l) = refl
length-shares ms (BlockedFrame b) = refl

length-all : (ms : List ℕ) (fs : List Known) → length (with_all_shares ms fs) ≡ length ms
unfolding with_all_shares
length-all ms [] = refl
length-all ms (f ∷ fs) = length-all (with_shares ms f) fs ∙ length-shares ms f

set_at : (ms : List ℕ) (stream n k : ℕ) → k < length ms → get_or (set ms stream (get_or ms stream 0 + n)) k 0 ≡ get_or ms k 0 + cond (nat_eq stream k) n 0
set_at ms stream n k l = elim (cases_eq k stream) [
  | inl e ↦
      let same : get_or (set ms k (get_or ms k 0 + n)) k 0 ≡ get_or ms k 0 + n = get_or-set_same ms k (get_or ms k 0 + n) 0 l in
      let yes : nat_eq k k ≡ true = grind (arith, nat_tests) in
      subst (λ s. get_or (set ms s (get_or ms s 0 + n)) k 0 ≡ get_or ms k 0 + cond (nat_eq s k) n 0) e (same ∙ ap (λ b. get_or ms k 0 + cond b n 0) (sym yes))
  | inr ne ↦
      let no : nat_eq stream k ≡ false = grind (arith, nat_tests) in
      let z : get_or ms k 0 ≡ get_or ms k 0 + 0 = omega arith in
      get_or-set_other ms stream k (get_or ms stream 0 + n) 0 ne ∙ z ∙ ap (λ b. get_or ms k 0 + cond b n 0) (sym no)
]

none_at : (n : ℕ) → n ≡ n + 0
none_at n = omega arith

shares_at : (ms : List ℕ) (f : Known) (k : ℕ) → k < length ms → get_or (with_shares ms f) k 0 ≡ get_or ms k 0 + money_of k f
shares_at ms (StreamMoney stream n) k l = set_at ms stream n k l
shares_at ms (StreamData s o xs) k l = none_at (get_or ms k 0)
shares_at ms (CloseFrame c) k l = none_at (get_or ms k 0)
shares_at ms (OtherFrame o) k l = none_at (get_or ms k 0)
shares_at ms (LimitFrame limit) k l = none_at (get_or ms k 0)
shares_at ms (BlockedFrame b) k l = none_at (get_or ms k 0)

pub money-cons : (k : ℕ) (f : Known) (fs : List Known) → money_in k (f ∷ fs) ≡ money_of k f + money_in k fs
money-cons k f fs = grind (arith, common_steps)

pub money-nil : (k : ℕ) → money_in k [] ≡ 0
money-nil k = grind (arith, common_steps)

all_at : (ms : List ℕ) (fs : List Known) (k : ℕ) → k < length ms → get_or (with_all_shares ms fs) k 0 ≡ get_or ms k 0 + money_in k fs
unfolding with_all_shares
all_at ms [] k l = let z = money-nil k in none_at (get_or ms k 0) ∙ ap (λ n. get_or ms k 0 + n) (sym z)
all_at ms (f ∷ fs) k l =
    let h = all_at (with_shares ms f) fs k (subst (λ n. k < n) (sym (length-shares ms f)) l) in
    let a = shares_at ms f k l in
    let b = money-cons k f fs in
    omega (arith, h, a, b)

as_map : (xs : List ℕ) (f : ℕ → ℕ) (a : ℕ) → ((k : ℕ) → k < length xs → get_or xs k 0 ≡ f (a + k)) → xs ≡ map f (range_with_len a (length xs))
as_map [] f a h = refl
as_map (x ∷ xs) f a h =
    let z : a + 0 ≡ a = omega arith in
    let first : x ≡ f a = h 0 (omega arith) ∙ ap f z in
    let rest : xs ≡ map f (range_with_len (a + 1) (length xs)) = as_map xs f (a + 1) (λ k l. h (suc k) (omega arith) ∙ ap f (let e : a + suc k ≡ (a + 1) + k = omega arith in e)) in
    λ i. first i ∷ rest i

zero_at : (n k : ℕ) → get_or {A = ℕ} (replicate n 0) k 0 ≡ 0
zero_at zero k = refl
zero_at (suc n) zero = refl
zero_at (suc n) (suc k) = zero_at n k

length-zeros : (n : ℕ) → length (replicate {A = ℕ} n 0) ≡ n
length-zeros zero = refl
length-zeros (suc n) = ap suc (length-zeros n)

-- counted frame by frame, the shares are those of the definition
pub shares_are : (fs : List Known) → with_all_shares (replicate 65 0) fs ≡ shares fs
unfolding shares
shares_are fs =
    let xs = with_all_shares (replicate 65 0) fs in
    let len : length xs ≡ 65 = length-all (replicate 65 0) fs ∙ length-zeros 65 in
    as_map xs (λ k. money_in k fs) 0 (λ k l.
    let z = zero_at 65 k in
    let h = all_at (replicate 65 0) fs k (let e = length-zeros 65 in subst (λ n. k < n) (sym e) (subst (λ n. k < n) len l)) in
    let e : 0 + k ≡ k = omega arith in
    h ∙ (let y : get_or (replicate 65 0) k 0 + money_in k fs ≡ money_in k fs = omega (arith, z) in y) ∙ ap (λ j. money_in j fs) (sym e))
    ∙ ap (λ n. map (λ k. money_in k fs) (range_with_len 0 n)) len

pub length_shares : (fs : List Known) → length (shares fs) ≡ 65
length_shares fs = ap length (sym (shares_are fs)) ∙ length-all (replicate 65 0) fs ∙ length-zeros 65

pub share_at : (fs : List Known) (k : ℕ) → k < 65 → get_or (shares fs) k 0 ≡ money_in k fs
share_at fs k l =
    let z = zero_at 65 k in
    ap (λ ms. get_or ms k 0) (sym (shares_are fs)) ∙ all_at (replicate 65 0) fs k (subst (λ n. k < n) (sym (length-zeros 65)) l) ∙ (let y : get_or (replicate 65 0) k 0 + money_in k fs ≡ money_in k fs = omega (arith, z) in y)

-- ---- the parts

div_times : (x s : ℕ) → x / s * s ≤ x
div_times x s = grind arith

rounded-sum : (amount all : ℕ) (ms : List ℕ) → sum (rounded amount all ms) * all ≤ amount * sum ms
rounded-sum amount all [] = omega arith
rounded-sum amount all (m ∷ ms) =
    let h = rounded-sum amount all ms in
    let a = sum-cons (amount * m / all) (rounded amount all ms) in
    let b = sum-cons m ms in
    let d = div_times (amount * m) all in
    subst (λ x. x * all ≤ amount * sum (m ∷ ms)) (sym a) (subst (λ x. (amount * m / all + sum (rounded amount all ms)) * all ≤ amount * x) (sym b) (omega arith))

cancel : (x a s : ℕ) → 0 < s → x * s ≤ a * s → x ≤ a
cancel x a s pos h = grind arith

pub rounded-least : (amount all : ℕ) (ms : List ℕ) → 0 < all → all ≡ sum ms → sum (rounded amount all ms) ≤ amount
rounded-least amount all ms pos e = cancel (sum (rounded amount all ms)) amount all pos (subst (λ n. sum (rounded amount all ms) * all ≤ amount * n) (sym e) (rounded-sum amount all ms))

is_zero : (m : ℕ) → nat_eq m 0 ≡ true → m ≡ 0
is_zero m e = grind (arith, nat_tests)

rest-sum : (amount all rest : ℕ) (ms : List ℕ) → 0 < sum ms → sum (with_rest rest ms (rounded amount all ms)) ≡ sum (rounded amount all ms) + rest
rest-sum amount all rest [] pos = absurd (let z : sum [] ≡ 0 = grind (arith, common_steps) in omega (arith, pos, z))
rest-sum amount all rest (m ∷ ms) pos = step (nat_eq m 0) refl (λ z. rest-sum amount all rest ms (let e = sum-cons m ms in omega (arith, pos, z, e)))
  where
    step : (b : Bool) → nat_eq m 0 ≡ b → (m ≡ 0 → sum (with_rest rest ms (rounded amount all ms)) ≡ sum (rounded amount all ms) + rest)
        → sum (cond b ((amount * m / all) ∷ with_rest rest ms (rounded amount all ms)) ((amount * m / all + rest) ∷ rounded amount all ms)) ≡ sum (rounded amount all (m ∷ ms)) + rest
    step true e h =
        let r = h (is_zero m e) in
        let a = sum-cons (amount * m / all) (with_rest rest ms (rounded amount all ms)) in
        let b = sum-cons (amount * m / all) (rounded amount all ms) in
        omega (arith, r, a, b)
    step false e h =
        let a = sum-cons (amount * m / all + rest) (rounded amount all ms) in
        let b = sum-cons (amount * m / all) (rounded amount all ms) in
        omega (arith, a, b)

-- the parts add up to the amount
pub parts-sum : (amount : ℕ) (ms : List ℕ) → 0 < sum ms → sum (parts amount ms) ≡ amount
unfolding parts
parts-sum amount ms pos =
    let l = rounded-least amount (sum ms) ms pos refl in
    rest-sum amount (sum ms) (amount - sum (rounded amount (sum ms) ms)) ms pos ∙ (let e : sum (rounded amount (sum ms) ms) + (amount - sum (rounded amount (sum ms) ms)) ≡ amount = omega (arith, l) in e)

zero_test : (m : ℕ) → m ≡ 0 → nat_eq m 0 ≡ true
zero_test m e = grind (arith, nat_tests)

some_test : (m : ℕ) → 0 < m → nat_eq m 0 ≡ false
some_test m e = grind (arith, nat_tests)

-- what is left goes to the first that has shares
pub rest_at : (rest : ℕ) (ms ps : List ℕ) (k : ℕ) → length ps ≡ length ms → k < length ms → ((j : ℕ) → j < k → get_or ms j 0 ≡ 0) → 0 < get_or ms k 0 → with_rest rest ms ps ≡ set ps k (get_or ps k 0 + rest)
rest_at rest [] ps k e l z s = absurd (omega arith)
rest_at rest (m ∷ ms) [] k e l z s = absurd (omega arith)
rest_at rest (m ∷ ms) (p ∷ ps) zero e l z s = ap (λ b. cond b (p ∷ with_rest rest ms ps) ((p + rest) ∷ ps)) (some_test m s)
rest_at rest (m ∷ ms) (p ∷ ps) (suc k) e l z s =
    ap (λ b. cond b (p ∷ with_rest rest ms ps) ((p + rest) ∷ ps)) (zero_test m (z 0 (omega arith)))
    ∙ ap (λ qs. p ∷ qs) (rest_at rest ms ps k (omega arith) (omega arith) (λ j h. z (suc j) (omega arith)) s)

all_zero : (ms : List ℕ) → ((j : ℕ) → j < length ms → get_or ms j 0 ≡ 0) → sum ms ≡ 0
all_zero [] z = grind (arith, common_steps)
all_zero (m ∷ ms) z = let a = sum-cons m ms in let b = z 0 (omega arith) in let h = all_zero ms (λ j l. z (suc j) (omega arith)) in omega (arith, a, b, h)

pub some_share : (ms : List ℕ) (k : ℕ) → 0 < sum ms → length ms ≡ 65 → k ≤ 65 → ((j : ℕ) → j < k → get_or ms j 0 ≡ 0) → k < 65
some_share ms k pos len l z = elim (cases_eq k 65) [
  | inl e ↦ absurd (let h = all_zero ms (λ j m. z j (omega (arith, m, len, e))) in omega (arith, h, pos))
  | inr n ↦ omega (arith, l, n)
]

pub length-rounded : (amount all : ℕ) (ms : List ℕ) → length (rounded amount all ms) ≡ length ms
length-rounded amount all [] = refl
length-rounded amount all (m ∷ ms) = ap suc (length-rounded amount all ms)

pub parts_are : (amount all : ℕ) (ms : List ℕ) (k : ℕ) → all ≡ sum ms → k < length ms → ((j : ℕ) → j < k → get_or ms j 0 ≡ 0) → 0 < get_or ms k 0
    → set (rounded amount all ms) k (get_or (rounded amount all ms) k 0 + (amount - sum (rounded amount all ms))) ≡ parts amount ms
unfolding parts
parts_are amount all ms k e l z s =
    sym (rest_at (amount - sum (rounded amount all ms)) ms (rounded amount all ms) k (length-rounded amount all ms) l z s)
    ∙ ap (λ a. with_rest (amount - sum (rounded amount a ms)) ms (rounded amount a ms)) e

-- no part without shares
nothing : (amount all m : ℕ) → m ≡ 0 → amount * m / all ≡ 0
nothing amount all m e = grind arith

rounded_none : (amount all : ℕ) (ms : List ℕ) (k : ℕ) → get_or ms k 0 ≡ 0 → get_or (rounded amount all ms) k 0 ≡ 0
rounded_none amount all [] k e = refl
rounded_none amount all (m ∷ ms) zero e = nothing amount all m e
rounded_none amount all (m ∷ ms) (suc k) e = rounded_none amount all ms k e

rest_none : (rest amount all : ℕ) (ms : List ℕ) (k : ℕ) → get_or ms k 0 ≡ 0 → get_or (with_rest rest ms (rounded amount all ms)) k 0 ≡ 0
rest_none rest amount all [] k e = refl
rest_none rest amount all (m ∷ ms) zero e = ap (λ b. get_or (cond b (amount * m / all ∷ with_rest rest ms (rounded amount all ms)) ((amount * m / all + rest) ∷ rounded amount all ms)) 0 0) (zero_test m e) ∙ nothing amount all m e
rest_none rest amount all (m ∷ ms) (suc k) e = by (nat_eq m 0) (rest_none rest amount all ms k e)
  where
    by : (b : Bool) → get_or (with_rest rest ms (rounded amount all ms)) k 0 ≡ 0 → get_or (cond b (amount * m / all ∷ with_rest rest ms (rounded amount all ms)) ((amount * m / all + rest) ∷ rounded amount all ms)) (suc k) 0 ≡ 0
    by true h = h
    by false h = rounded_none amount all ms k e

pub part_none : (amount : ℕ) (ms : List ℕ) (k : ℕ) → get_or ms k 0 ≡ 0 → get_or (parts amount ms) k 0 ≡ 0
unfolding parts
part_none amount ms k e = rest_none (amount - sum (rounded amount (sum ms) ms)) amount (sum ms) ms k e

length-rest : (rest : ℕ) (ms ps : List ℕ) → length (with_rest rest ms ps) ≡ length ps
length-rest rest [] ps = refl
length-rest rest (m ∷ ms) [] = refl
length-rest rest (m ∷ ms) (p ∷ ps) = by (nat_eq m 0) (length-rest rest ms ps)
  where
    by : (b : Bool) → length (with_rest rest ms ps) ≡ length ps → length (cond b (p ∷ with_rest rest ms ps) ((p + rest) ∷ ps)) ≡ length (p ∷ ps)
    by true h = ap suc h
    by false h = refl

pub length-parts : (amount : ℕ) (ms : List ℕ) → length (parts amount ms) ≡ length ms
unfolding parts
length-parts amount ms = length-rest (amount - sum (rounded amount (sum ms) ms)) ms (rounded amount (sum ms) ms) ∙ length-rounded amount (sum ms) ms

pub shares_step : (ms after : List ℕ) (fs rest : List (ℕ × Known)) (x : ℕ × Known) (all : List Known) → fs ≡ x ∷ rest → after ≡ with_shares ms x.1 → with_all_shares ms (map frame_of fs) ≡ shares all → with_all_shares after (map frame_of rest) ≡ shares all
shares_step ms after fs rest x all e to h =
    ap (λ (ns : List ℕ). with_all_shares ns (map frame_of rest)) to ∙ sym (shares-cons ms x.1 (map frame_of rest)) ∙ sym (ap (λ zs. with_all_shares ms (map frame_of zs)) e) ∙ h
