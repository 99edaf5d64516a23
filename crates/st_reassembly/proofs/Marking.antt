-- Marks found, set and taken away, word by word.
use Rattle.std.proofs.Common.{◌≡◌, ◌≢◌, ℕ, ◌+◌, ◌-◌, ◌*◌, ◌/◌, ◌%◌, ◌^◌, ◌<◌, ◌≤◌, Bool, true, false, ◌&&◌, ◌||◌, List, length, set, get_or, get_or-set_same, get_or-set_other, ap, ◌∙◌, sym, arith, inl, inr}
use Rattle.std.specs.Prelude.{not, nat_lt, bit_and, bit_or, slice_index}
use Rattle.std.proofs.lemmas.Bool.{cases_eq}
use Rattle.std.proofs.lemmas.List.{get_or_default}
use Rattle.std.proofs.lemmas.Bool.Decides.{nat_tests}
use Rattle.st_streams.specs.Table.{is_between}
use Rattle.st_reassembly.specs.Ring.{has_bit, is_marked}
use Rattle.st_reassembly.proofs.Bits.{has_bit-or, has_bit-and, has_bit-not}

set_here : (marks : List ℕ) (w v k : ℕ) → w < length marks → k / 64 ≡ w → is_marked (set marks w v) k ≡ has_bit v (k % 64)
set_here marks w v k l e = ap (λ (x : ℕ). has_bit (get_or (set marks w v) x 0) (k % 64)) e ∙ ap (λ (x : ℕ). has_bit x (k % 64)) (get_or-set_same marks w v 0 l)

set_apart : (marks : List ℕ) (w v k : ℕ) → k / 64 ≢ w → is_marked (set marks w v) k ≡ is_marked marks k
set_apart marks w v k n = ap (λ (x : ℕ). has_bit x (k % 64)) (get_or-set_other marks w (k / 64) v 0 n)

more_here : (m b base lt lt' : Bool) → lt ≡ false → lt' ≡ true → m ≡ ((b && lt) || base) → (m || b) ≡ ((b && lt') || base)
more_here m true true lt lt' e f g = grind (arith, e, f, g)
more_here m true false lt lt' e f g = grind (arith, e, f, g)
more_here m false true lt lt' e f g = grind (arith, e, f, g)
more_here m false false lt lt' e f g = grind (arith, e, f, g)

less_here : (m b base lt lt' : Bool) → lt ≡ false → lt' ≡ true → m ≡ (not (b && lt) && base) → (m && not b) ≡ (not (b && lt') && base)
less_here m true true lt lt' e f g = grind (arith, e, f, g)
less_here m true false lt lt' e f g = grind (arith, e, f, g)
less_here m false true lt lt' e f g = grind (arith, e, f, g)
less_here m false false lt lt' e f g = grind (arith, e, f, g)

before_word : (k w : ℕ) → k / 64 ≡ w → nat_lt k (64 * w) ≡ false
before_word k w e = let l : 64 * w ≤ k = omega arith in grind (arith, nat_tests)

after_word : (k w : ℕ) → k / 64 ≡ w → nat_lt k (64 * (w + 1)) ≡ true
after_word k w e = let l : k < 64 * (w + 1) = omega arith in grind (arith, nat_tests)

other_word : (k w : ℕ) → k / 64 ≢ w → nat_lt k (64 * w) ≡ nat_lt k (64 * (w + 1))
other_word k w n = elim (cases_eq (k / 64) w) [ inl e ↦ absurd (n e) | inr m ↦ same k w (omega arith) ]
  where
    same : (k w : ℕ) → (64 * w ≤ k → 64 * (w + 1) ≤ k) → nat_lt k (64 * w) ≡ nat_lt k (64 * (w + 1))
    same k w h = grind (arith, nat_tests)

-- p has the bits of the places from `from` on and before `to`, in a word
module _ (marks base : List ℕ) (from to w p old : ℕ) (small : p < 2 ^ 64) (within : w < length marks) (was : old ≡ get_or marks w old) (has : (i : ℕ) → i < 64 → has_bit p i ≡ is_between from to (64 * w + i)) where
  between_at : (k : ℕ) → k / 64 ≡ w → has_bit p (k % 64) ≡ is_between from to k
  between_at k e = has (k % 64) (omega arith) ∙ ap (is_between from to) (let same : 64 * w + k % 64 ≡ k = omega arith in same)

  word_at : (k : ℕ) → k / 64 ≡ w → has_bit old (k % 64) ≡ is_marked marks k
  word_at k e = ap (λ x. has_bit x (k % 64)) (was ∙ get_or_default marks w old 0 within) ∙ ap (λ x. has_bit (slice_index marks x) (k % 64)) (sym e)

  pub marked_more : (k : ℕ) → is_marked marks k ≡ ((is_between from to k && nat_lt k (64 * w)) || is_marked base k)
      → is_marked (set marks w (bit_or old p)) k ≡ ((is_between from to k && nat_lt k (64 * (w + 1))) || is_marked base k)
  marked_more k h =
      elim (cases_eq (k / 64) w) [
        | inl e ↦ set_here marks w (bit_or old p) k within e ∙ has_bit-or old p (k % 64)
            ∙ ap (λ b. b || has_bit p (k % 64)) (word_at k e) ∙ ap (λ b. is_marked marks k || b) (between_at k e)
            ∙ more_here (is_marked marks k) (is_between from to k) (is_marked base k) (nat_lt k (64 * w)) (nat_lt k (64 * (w + 1))) (before_word k w e) (after_word k w e) h
        | inr n ↦ set_apart marks w (bit_or old p) k n ∙ h ∙ ap (λ b. (is_between from to k && b) || is_marked base k) (other_word k w n)
      ]

  pub marked_less : (k : ℕ) → is_marked marks k ≡ (not (is_between from to k && nat_lt k (64 * w)) && is_marked base k)
      → is_marked (set marks w (bit_and old (18446744073709551615 - p))) k ≡ (not (is_between from to k && nat_lt k (64 * (w + 1))) && is_marked base k)
  marked_less k h =
      elim (cases_eq (k / 64) w) [
        | inl e ↦ set_here marks w (bit_and old (18446744073709551615 - p)) k within e ∙ has_bit-and old (18446744073709551615 - p) (k % 64)
            ∙ ap (λ b. b && has_bit (18446744073709551615 - p) (k % 64)) (word_at k e) ∙ ap (λ b. is_marked marks k && b) (has_bit-not p (k % 64) small (omega arith) ∙ ap not (between_at k e))
            ∙ less_here (is_marked marks k) (is_between from to k) (is_marked base k) (nat_lt k (64 * w)) (nat_lt k (64 * (w + 1))) (before_word k w e) (after_word k w e) h
        | inr n ↦ set_apart marks w (bit_and old (18446744073709551615 - p)) k n ∙ h ∙ ap (λ b. not (is_between from to k && b) && is_marked base k) (other_word k w n)
      ]

-- once each word up to the end is done
none_after : (from to k n : ℕ) → to ≤ 64 * n → (is_between from to k && nat_lt k (64 * n)) ≡ is_between from to k
none_after from to k n l = grind (arith, nat_tests)
