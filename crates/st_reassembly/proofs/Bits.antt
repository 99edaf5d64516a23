-- Bits of a word, as tests.
use Rattle.std.proofs.Common.{◌≡◌, ℕ, ◌+◌, ◌-◌, ◌/◌, ◌%◌, ◌^◌, ◌<◌, ◌≤◌, true, false, ◌&&◌, ◌||◌, max, min, ap, ◌∙◌, sym, arith, inl, inr}
use Rattle.std.specs.Prelude.{not, nat_eq, nat_lt, bit_and, bit_or}
use Rattle.std.proofs.Common.{w64}
use Rattle.std.proofs.lemmas.Bool.{cases_lt}
use Rattle.std.proofs.lemmas.Nat.{shr-shr}
use Rattle.std.proofs.Math.Nat.{div-le_self}
use Rattle.std.specs.Int.{bit_at, trailing_zeros}
use Rattle.std.proofs.lemmas.Bool.Decides.{nat_tests}
use Rattle.std.proofs.lemmas.Nat.Bits.{bit_at_and, bit_at_or, bit_at_not, bit_at-lt, bit_at-zero, bit_at_ones, bit_at_ones_above, bit_at_above, bit_at-trailing_zeros}
use Rattle.st_reassembly.specs.Ring.{has_bit}

or_test : (a b : ℕ) → a < 2 → b < 2 → nat_eq (max a b) 1 ≡ (nat_eq a 1 || nat_eq b 1)
or_test a b l m = grind (arith, nat_tests)

and_test : (a b : ℕ) → a < 2 → b < 2 → nat_eq (min a b) 1 ≡ (nat_eq a 1 && nat_eq b 1)
and_test a b l m = grind (arith, nat_tests)

not_test : (a : ℕ) → a < 2 → nat_eq (1 - a) 1 ≡ not (nat_eq a 1)
not_test a l = grind (arith, nat_tests)

pub has_bit-or : (a b i : ℕ) → has_bit (bit_or a b) i ≡ (has_bit a i || has_bit b i)
unfolding has_bit
has_bit-or a b i = ap (λ n. nat_eq n 1) (bit_at_or a b i) ∙ or_test (bit_at a i) (bit_at b i) (bit_at-lt a i) (bit_at-lt b i)

pub has_bit-and : (a b i : ℕ) → has_bit (bit_and a b) i ≡ (has_bit a i && has_bit b i)
unfolding has_bit
has_bit-and a b i = ap (λ n. nat_eq n 1) (bit_at_and a b i) ∙ and_test (bit_at a i) (bit_at b i) (bit_at-lt a i) (bit_at-lt b i)

pub has_bit-zero : (i : ℕ) → has_bit 0 i ≡ false
unfolding has_bit
has_bit-zero i = ap (λ n. nat_eq n 1) (bit_at-zero i)

zero_test : (word : ℕ) → nat_eq word 0 ≡ true → word ≡ 0
zero_test word e = grind (arith, nat_tests)

pub no_bit : (word : ℕ) → nat_eq word 0 ≡ true → (i : ℕ) → has_bit word i ≡ false
no_bit word e i = ap (λ n. has_bit n i) (zero_test word e) ∙ has_bit-zero i

below_test : (i n : ℕ) → i < n → nat_lt i n ≡ true
below_test i n l = grind (arith, nat_tests)

above_test : (i n : ℕ) → n ≤ i → nat_lt i n ≡ false
above_test i n l = grind (arith, nat_tests)

pub has_bit-ones : (n i : ℕ) → has_bit (2 ^ n - 1) i ≡ nat_lt i n
unfolding has_bit
has_bit-ones n i =
    elim (cases_lt i n) [
      | inl l ↦ ap (λ b. nat_eq b 1) (bit_at_ones n i l) ∙ sym (below_test i n l)
      | inr l ↦ ap (λ b. nat_eq b 1) (bit_at_ones_above n i l) ∙ sym (above_test i n l)
    ]

pub has_bit-not : (a i : ℕ) → a < 2 ^ 64 → i < 64 → has_bit (18446744073709551615 - a) i ≡ not (has_bit a i)
unfolding has_bit
has_bit-not a i l m = ap (λ b. nat_eq b 1) (bit_at_not w64 a i l m) ∙ not_test (bit_at a i) (bit_at-lt a i)

pub has_bit-shr : (word s i : ℕ) → has_bit (word / 2 ^ s) i ≡ has_bit word (s + i)
unfolding has_bit
has_bit-shr word s i = ap (λ n. nat_eq (n % 2) 1) (shr-shr word s i)

-- a bit from s on, as one of the word moved down by s
moved : (word s i : ℕ) → s ≤ i → has_bit word i ≡ has_bit (word / 2 ^ s) (i - s)
moved word s i l = ap (has_bit word) (let same : i ≡ s + (i - s) = omega arith in same) ∙ sym (has_bit-shr word s (i - s))

pub no_bit_from : (word s i : ℕ) → word / 2 ^ s ≡ 0 → s ≤ i → has_bit word i ≡ false
no_bit_from word s i e l = moved word s i l ∙ ap (λ n. has_bit n (i - s)) e ∙ has_bit-zero (i - s)

one_not_zero : (b : ℕ) → b ≡ 0 → b ≡ 1 → ⊥
one_not_zero b e f = omega arith

-- the lowest bit from s on, if there is one
pub record IsLowest (word s at : ℕ) : Type 0 where
  pub within : at < 64
  pub found : has_bit word at ≡ true
  pub passed : (i : ℕ) → s ≤ i → i < at → has_bit word i ≡ false

pub lowest_is : (word s : ℕ) → word < 2 ^ 64 → 0 < word / 2 ^ s → IsLowest word s (s + trailing_zeros w64 (word / 2 ^ s))
unfolding has_bit
lowest_is word s l some =
    let left : word / 2 ^ s < 2 ^ 64 = omega (arith, div-le_self word (2 ^ s)) in
    let at = bit_at-trailing_zeros w64 (word / 2 ^ s) some left in
    let found : bit_at word (s + trailing_zeros w64 (word / 2 ^ s)) ≡ 1 = ap (λ n. n % 2) (sym (shr-shr word s (trailing_zeros w64 (word / 2 ^ s)))) ∙ at.1 in
    record {
      within = elim (cases_lt (s + trailing_zeros w64 (word / 2 ^ s)) 64) [ inl m ↦ m | inr m ↦ absurd (one_not_zero _ (bit_at_above word 64 (s + trailing_zeros w64 (word / 2 ^ s)) l m) found) ];
      found = ap (λ b. nat_eq b 1) found;
      passed = λ i from below. ap (λ b. nat_eq b 1) (ap (bit_at word) (let same : i ≡ s + (i - s) = omega arith in same) ∙ ap (λ n. n % 2) (sym (shr-shr word s (i - s))) ∙ at.2 (i - s) (omega arith));
    }
