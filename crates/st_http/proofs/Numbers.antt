-- The numbers that digits write: equal if and only if the digits are, leading zeros aside.
use Rattle.std.proofs.Common.{◌≡◌, ℕ, ◌+◌, ◌-◌, ◌*◌, ◌≤◌, ◌<◌, zero, suc, List, [], ◌∷◌, ◌++◌, length, take, drop, refl, sym, ap, ◌∙◌, inl, inr, arith, rules, true, false, take-append-drop, subst, ◌⊎◌}
use Rattle.std.specs.Prelude.{fold, nat_le, if◌then◌else◌, ◌==◌, ◌↔◌, bytes_eq}
use Rattle.std.proofs.lemmas.Slice.Eq.{bytes_eq-Decides}
use Rattle.std.specs.List.{list_all}
use Rattle.std.specs.Char.{is_ascii_digit}
use Rattle.std.proofs.lemmas.List.Sums.{fold-append}
use Rattle.std.proofs.lemmas.Bool.{cases_Bool, eqb-true}
use Rattle.st_http.specs.declared.length.Length.TheVariants.{TooLong, Of}
use Rattle.st_http.proofs.Walks.{both}
use Rattle.st_http.specs.Length.{number, length_up_to, without_zeros}

pub grows : (n : ℕ) (ds : List ℕ) → n ≤ fold (λ m d. 10 * m + (d - 48)) n ds
grows n [] = omega arith
grows n (d ∷ ds) = omega (arith, grows (10 * n + (d - 48)) ds)

-- the digits in front write no more than all
pub front_is_less : (k : ℕ) (ds : List ℕ) → number (take k ds) ≤ number ds
front_is_less k ds =
    let f : ℕ → ℕ → ℕ = λ m d. 10 * m + (d - 48) in
    let whole : number (take k ds ++ drop k ds) ≡ fold f (number (take k ds)) (drop k ds) = fold-append f 0 (take k ds) (drop k ds) in
    let same : number (take k ds ++ drop k ds) ≡ number ds = ap number (take-append-drop k ds) in
    omega (arith, grows (number (take k ds)) (drop k ds), whole, same)

-- a number whose digits in front are past the limit
pub too_long : (k : ℕ) (ds : List ℕ) → 65535 < number (take k ds) → TooLong ≡ length_up_to (number ds)
too_long k ds past =
    let above : 65535 < number ds = omega (arith, front_is_less k ds) in
    choose (number ds) above
  where
    choose : (n : ℕ) → 65535 < n → TooLong ≡ (if nat_le n 65535 then Of n else TooLong)
    choose n above = grind (arith, rules)

-- zeros in front of digits
abbrev pad : ℕ → List ℕ → List ℕ
pad zero ds = ds
pad (suc k) ds = 48 ∷ pad k ds

length-pad : (k : ℕ) (ds : List ℕ) → length (pad k ds) ≡ k + length ds
length-pad zero ds = omega arith
length-pad (suc k) ds = omega (arith, length-pad k ds)

number-pad : (k : ℕ) (ds : List ℕ) → number (pad k ds) ≡ number ds
number-pad zero ds = refl
number-pad (suc k) ds = number-pad k ds

zeros-pad : (k : ℕ) (ds : List ℕ) → without_zeros (pad k ds) ≡ without_zeros ds
zeros-pad zero ds = refl
zeros-pad (suc k) ds = zeros-pad k ds

digits-pad : (k : ℕ) (ds : List ℕ) → list_all is_ascii_digit ds ≡ true → list_all is_ascii_digit (pad k ds) ≡ true
digits-pad zero ds all = all
digits-pad (suc k) ds all = digits-pad k ds all

digit_bounds : (d : ℕ) → is_ascii_digit d ≡ true → (48 ≤ d) × (d ≤ 57)
digit_bounds d is = (grind (arith, rules), grind (arith, rules))

-- the same number of digits after two numbers: the numbers are equal and so are the digits
same_length : (n m : ℕ) (a b : List ℕ) → length a ≡ length b → list_all is_ascii_digit a ≡ true → list_all is_ascii_digit b ≡ true
    → fold (λ m d. 10 * m + (d - 48)) n a ≡ fold (λ m d. 10 * m + (d - 48)) m b → (n ≡ m) × (a ≡ b)
same_length n m [] [] long one other same = (same, refl)
same_length n m [] (e ∷ b) long one other same = absurd (omega (arith, long))
same_length n m (d ∷ a) [] long one other same = absurd (omega (arith, long))
same_length n m (d ∷ a) (e ∷ b) long one other same =
    let left = both (is_ascii_digit d) (list_all is_ascii_digit a) one in
    let right = both (is_ascii_digit e) (list_all is_ascii_digit b) other in
    let rest = same_length (10 * n + (d - 48)) (10 * m + (e - 48)) a b (omega (arith, long)) left.1 right.1 same in
    let first = digit_bounds d left.0 in
    let second = digit_bounds e right.0 in
    let head : 10 * n + (d - 48) ≡ 10 * m + (e - 48) = rest.0 in
    let digits : d ≡ e = omega (arith, head, first.0, first.1, second.0, second.1) in
    (omega (arith, head, first.0, first.1, second.0, second.1), ap (λ x. x ∷ a) digits ∙ ap (λ l. e ∷ l) rest.1)

number-without_zeros : (ds : List ℕ) → number (without_zeros ds) ≡ number ds
number-without_zeros [] = refl
number-without_zeros (d ∷ ds) = elim (cases_Bool (d == 48)) [
  | inl zero_ ↦ rw zero_ (number-without_zeros ds ∙ ap (λ x. number (x ∷ ds)) (sym (eqb-true d 48 zero_)))
  | inr other ↦ rw other refl
]

pub equal_digits : (a b : List ℕ) → list_all is_ascii_digit a ≡ true → list_all is_ascii_digit b ≡ true → number a ≡ number b → without_zeros a ≡ without_zeros b
equal_digits a b one other same =
    let k : ℕ = length b - length a in
    let j : ℕ = length a - length b in
    let long : length (pad k a) ≡ length (pad j b) = omega (arith, length-pad k a, length-pad j b) in
    let numbers : number (pad k a) ≡ number (pad j b) = number-pad k a ∙ same ∙ sym (number-pad j b) in
    let padded = same_length 0 0 (pad k a) (pad j b) long (digits-pad k a one) (digits-pad j b other) numbers in
    sym (zeros-pad k a) ∙ ap without_zeros padded.1 ∙ zeros-pad j b

pub equal_numbers : (a b : List ℕ) → list_all is_ascii_digit a ≡ true → list_all is_ascii_digit b ≡ true → (number a ≡ number b) ↔ (without_zeros a ≡ without_zeros b)
equal_numbers a b one other =
    (λ same. equal_digits a b one other same, λ same. sym (number-without_zeros a) ∙ ap number same ∙ number-without_zeros b)

-- the test of the digits without zeros in front is that of the numbers
pub equal_test : (a b : List ℕ) → list_all is_ascii_digit a ≡ true → list_all is_ascii_digit b ≡ true → bytes_eq (without_zeros b) (without_zeros a) ≡ (number b == number a)
equal_test a b one other = by (cases_Bool (number b == number a)) (cases_Bool (bytes_eq (without_zeros b) (without_zeros a)))
  where
    self_test : (n : ℕ) → (n == n) ≡ false → ⊥
    self_test n e = grind (arith, rules)

    by : ((number b == number a) ≡ true) ⊎ ((number b == number a) ≡ false) → (bytes_eq (without_zeros b) (without_zeros a) ≡ true) ⊎ (bytes_eq (without_zeros b) (without_zeros a) ≡ false)
        → bytes_eq (without_zeros b) (without_zeros a) ≡ (number b == number a)
    by (inl same) texts = rw same ((bytes_eq-Decides (without_zeros b) (without_zeros a)).1 (equal_digits b a other one (eqb-true (number b) (number a) same)))
    by (inr apart) (inr differ) = differ ∙ sym apart
    by (inr apart) (inl alike) =
        let same : number b ≡ number a = (equal_numbers b a other one).1 ((bytes_eq-Decides (without_zeros b) (without_zeros a)).0 alike) in
        absurd (let test = subst (λ n. (n == number a) ≡ false) same apart in self_test (number a) test)
