-- Sums of the words that the bits of a block choose.
use Rattle.std.proofs.Common.{◌≡◌, ℕ, zero, suc, ◌+◌, ◌-◌, ◌*◌, ◌/◌, ◌%◌, ◌^◌, ◌<◌, Bool, true, false, cond, eqb, List, length, get_or, map, replicate, bit_xor, bit_and, bit_or, refl, sym, ap, ◌∙◌, arith, w64}
use Rattle.std.specs.Int.{bit_at}
use Rattle.std.specs.Int.Bits.{xor_zero_r, xor_assoc, xor_self}
use Rattle.std.proofs.lemmas.Nat.{pow-add, pow_pos, shl-shr, and_mask, shr-shr, shr_split, shl_whole, or_shifted, xor_shr, xor_mod, xor_comm, le_or_l, le_or_r}
use Rattle.std.proofs.lemmas.Nat.Bits.{bit_at_and, bit_at_ones, and_pow}
use Rattle.std.proofs.lemmas.Bool.{cond-true, cond-false, eq-eqb, ne_eqb}
use Rattle.std.specs.Simd.Lanes.{zip2, sel_l, top}
use Rattle.std.proofs.lemmas.Simd.{length-zip2, get_or-zip2, get_or-replicate, length-sel_l, get_or-sel_l, tops_compared}
use Rattle.st_aes.proofs.Multiples.{sum_joined}
use Rattle.st_aes.proofs.Linear.{xor_swap, IsLinear, of_zero, of_sum, sums_same}
use Rattle.st_aes.specs.ByteField.{xor_sum}
use Rattle.st_aes.specs.BlockField.{block_times_x, block_times_power, block_term, product, chosen_words, HasPowers}

times_x_by : (v b : ℕ) → b < 2 → bit_xor (v / 2) (bit_and (0xe1 * 2 ^ 120) ((0 + (2 ^ 128 - b)) % 2 ^ 128)) ≡ cond (eqb b 1) (bit_xor (v / 2) (0xe1 * 2 ^ 120)) (v / 2)
times_x_by v zero lt = xor_zero_r (v / 2)
times_x_by v (suc zero) lt = refl
times_x_by v (suc (suc b)) lt = absurd (omega arith)

pub times_x_masked : (v : ℕ) → bit_xor (v / 2) (bit_and (0xe1 * 2 ^ 120) ((0 + (2 ^ 128 - v % 2)) % 2 ^ 128)) ≡ block_times_x v
unfolding block_times_x
times_x_masked v = times_x_by v (v % 2) (omega arith)

-- ---- four words at once

pub below_four : (P : ℕ → Type 0) → P 0 → P 1 → P 2 → P 3 → (c : ℕ) → c < 4 → P c
below_four P p0 p1 p2 p3 zero h = p0
below_four P p0 p1 p2 p3 (suc zero) h = p1
below_four P p0 p1 p2 p3 (suc (suc zero)) h = p2
below_four P p0 p1 p2 p3 (suc (suc (suc zero))) h = p3
below_four P p0 p1 p2 p3 (suc (suc (suc (suc n)))) h = absurd (omega arith)

pub chosen_lane : (x m w s : List ℕ) (c : ℕ) → length x ≡ 4 → length m ≡ 4 → length w ≡ 4 → length s ≡ 4 → c < 4
    → get_or (zip2 bit_xor s (sel_l (map (top 63) (zip2 (λ a b. cond (eqb a b) (2 ^ 64 - 1) 0) (zip2 bit_and x m) m)) w (replicate 4 0))) c 0
    ≡ bit_xor (get_or s c 0) (cond (eqb (bit_and (get_or x c 0) (get_or m c 0)) (get_or m c 0)) (get_or w c 0) 0)
chosen_lane x m w s c lx lm lw ls lt =
    let both = zip2 bit_and x m in
    let both_long : length both ≡ 4 = length-zip2 bit_and x m (lx ∙ sym lm) ∙ lx in
    let tests = zip2 eqb both m in
    let long : length tests ≡ 4 = length-zip2 eqb both m (both_long ∙ sym lm) ∙ both_long in
    let picked = sel_l tests w (replicate 4 0) in
    let picked_long : length picked ≡ 4 = length-sel_l tests w (replicate 4 0) (long ∙ sym lw) long ∙ long in
    let lane : get_or picked c 0 ≡ cond (eqb (bit_and (get_or x c 0) (get_or m c 0)) (get_or m c 0)) (get_or w c 0) 0 =
    get_or-sel_l tests w (replicate 4 0) c 0 (omega arith) (omega arith) lt
    ∙ ap (λ (z : ℕ). cond (get_or tests c false) (get_or w c 0) z) (get_or-replicate 4 c 0 0 lt)
    ∙ ap (λ (t : Bool). cond t (get_or w c 0) 0) (get_or-zip2 eqb both m c 0 0 false (omega arith) (omega arith))
    ∙ ap (λ (n : ℕ). cond (eqb n (get_or m c 0)) (get_or w c 0) 0) (get_or-zip2 bit_and x m c 0 0 0 (omega arith) (omega arith)) in
    ap (λ ms. get_or (zip2 bit_xor s (sel_l ms w (replicate 4 0))) c 0) (tops_compared w64 eqb both m)
    ∙ get_or-zip2 bit_xor s picked c 0 0 0 (omega arith) (omega arith) ∙ ap (bit_xor (get_or s c 0)) lane

pub lower_lane : (m : List ℕ) (c : ℕ) → length m ≡ 4 → c < 4 → get_or (zip2 (λ a n. a / 2 ^ n) m (replicate 4 4)) c 0 ≡ get_or m c 0 / 16
lower_lane m c lm lt = get_or-zip2 (λ a n. a / 2 ^ n) m (replicate 4 4) c 0 0 0 (omega arith) lt ∙ ap (λ (n : ℕ). get_or m c 0 / 2 ^ n) (get_or-replicate 4 c 4 0 lt)

-- a bit that is tested at its place
tested : (x k w : ℕ) → cond (eqb (bit_and x (2 ^ k)) (2 ^ k)) w 0 ≡ cond (eqb (bit_at x k) 1) w 0
tested x k w = go (bit_at x k) refl
  where
    go : (b : ℕ) → bit_at x k ≡ b → cond (eqb (bit_and x (2 ^ k)) (2 ^ k)) w 0 ≡ cond (eqb (bit_at x k) 1) w 0
    go zero e =
        let clear = and_pow x k ∙ ap (λ (b : ℕ). b * 2 ^ k) e in
        let none : bit_and x (2 ^ k) ≡ 2 ^ k → ⊥ = λ z. absurd (omega (arith, z, clear, pow_pos k)) in
        cond-false (eqb (bit_and x (2 ^ k)) (2 ^ k)) w 0 (ne_eqb (bit_and x (2 ^ k)) (2 ^ k) none) ∙ sym (ap (λ (b : ℕ). cond (eqb b 1) w 0) e)
    go (suc zero) e =
        let whole : bit_and x (2 ^ k) ≡ 2 ^ k = omega (arith, and_pow x k, ap (λ (b : ℕ). b * 2 ^ k) e) in
        cond-true (eqb (bit_and x (2 ^ k)) (2 ^ k)) w 0 (eq-eqb (bit_and x (2 ^ k)) (2 ^ k) whole) ∙ sym (ap (λ (b : ℕ). cond (eqb b 1) w 0) e)
    go (suc (suc b)) e = absurd (omega arith)

-- lane c after one more word
pub lane_more : (f : ℕ → ℕ) (x m w sum r i c : ℕ) → m ≡ 2 ^ (63 - (4 * i + c)) → f (4 * i + c) ≡ cond (eqb (bit_at x (63 - (4 * i + c))) 1) w 0 → sum ≡ xor_sum (λ i. f (4 * i + c)) i
    → r ≡ bit_xor sum (cond (eqb (bit_and x m) m) w 0) → r ≡ xor_sum (λ i. f (4 * i + c)) (i + 1)
lane_more f x m w sum r i c mask term so_far is =
    let g = λ (i : ℕ). f (4 * i + c) in
    let next : suc i ≡ i + 1 = omega arith in
    is ∙ ap (λ (k : ℕ). bit_xor sum (cond (eqb (bit_and x k) k) w 0)) mask ∙ ap (bit_xor sum) (tested x (63 - (4 * i + c)) w ∙ sym term) ∙ ap (λ (s : ℕ). bit_xor s (g i)) so_far ∙ ap (xor_sum g) next

pub lower_mask : (m i c : ℕ) → i + 1 < 16 → c < 4 → m ≡ 2 ^ (63 - (4 * i + c)) → m / 16 ≡ 2 ^ (63 - (4 * (i + 1) + c))
lower_mask m i c few lt is =
    let k = 63 - (4 * (i + 1) + c) in
    let place : 63 - (4 * i + c) ≡ k + 4 = omega arith in
    ap (λ (n : ℕ). n / 16) (is ∙ ap (λ (n : ℕ). 2 ^ n) place ∙ pow-add 2 k 4) ∙ shl-shr (2 ^ k) 4

four_apart : (s a b c d p q r t : ℕ) → s ≡ bit_xor (bit_xor (bit_xor a b) c) d
    → bit_xor (bit_xor (bit_xor (bit_xor s p) q) r) t ≡ bit_xor (bit_xor (bit_xor (bit_xor a p) (bit_xor b q)) (bit_xor c r)) (bit_xor d t)
four_apart s a b c d p q r t e =
    let left : bit_xor (bit_xor (bit_xor s p) q) (bit_xor r t) ≡ bit_xor (bit_xor (bit_xor (bit_xor s p) q) r) t = sym (xor_assoc (bit_xor (bit_xor s p) q) r t) in
    let inner : bit_xor s (bit_xor p q) ≡ bit_xor (bit_xor s p) q = sym (xor_assoc s p q) in
    sym left ∙ ap (λ (v : ℕ). bit_xor v (bit_xor r t)) (sym inner) ∙ ap (λ (v : ℕ). bit_xor (bit_xor v (bit_xor p q)) (bit_xor r t)) (e ∙ xor_assoc (bit_xor a b) c d)
    ∙ ap (λ (v : ℕ). bit_xor v (bit_xor r t)) (xor_assoc (bit_xor a b) (bit_xor c d) (bit_xor p q) ∙ ap (bit_xor (bit_xor a b)) (xor_comm (bit_xor c d) (bit_xor p q)) ∙ sym (xor_assoc (bit_xor a b) (bit_xor p q) (bit_xor c d)))
    ∙ xor_assoc (bit_xor (bit_xor a b) (bit_xor p q)) (bit_xor c d) (bit_xor r t) ∙ ap (λ (v : ℕ). bit_xor v (bit_xor (bit_xor c d) (bit_xor r t))) (xor_swap a b p q) ∙ ap (bit_xor (bit_xor (bit_xor a p) (bit_xor b q))) (xor_swap c d r t)
    ∙ sym (xor_assoc (bit_xor (bit_xor a p) (bit_xor b q)) (bit_xor c r) (bit_xor d t))

pub same_four : (a b c d p q r t : ℕ) → a ≡ p → b ≡ q → c ≡ r → d ≡ t → bit_xor (bit_xor (bit_xor a b) c) d ≡ bit_xor (bit_xor (bit_xor p q) r) t
same_four a b c d p q r t e f g h = cc

pub four_lanes : (f : ℕ → ℕ) (n : ℕ) → xor_sum f (4 * n) ≡ bit_xor (bit_xor (bit_xor (xor_sum (λ i. f (4 * i + 0)) n) (xor_sum (λ i. f (4 * i + 1)) n)) (xor_sum (λ i. f (4 * i + 2)) n)) (xor_sum (λ i. f (4 * i + 3)) n)
four_lanes f zero = refl
four_lanes f (suc n) =
    let whole : 4 * suc n ≡ suc (suc (suc (suc (4 * n)))) = omega arith in
    let e0 : 4 * n ≡ 4 * n + 0 = omega arith in
    let e1 : suc (4 * n) ≡ 4 * n + 1 = omega arith in
    let e2 : suc (suc (4 * n)) ≡ 4 * n + 2 = omega arith in
    let e3 : suc (suc (suc (4 * n))) ≡ 4 * n + 3 = omega arith in
    let s = xor_sum f (4 * n) in
    ap (xor_sum f) whole
    ∙ ap (λ (k : ℕ). bit_xor (bit_xor (bit_xor (bit_xor s (f k)) (f (suc (4 * n)))) (f (suc (suc (4 * n))))) (f (suc (suc (suc (4 * n)))))) e0
    ∙ ap (λ (k : ℕ). bit_xor (bit_xor (bit_xor (bit_xor s (f (4 * n + 0))) (f k)) (f (suc (suc (4 * n))))) (f (suc (suc (suc (4 * n)))))) e1
    ∙ ap (λ (k : ℕ). bit_xor (bit_xor (bit_xor (bit_xor s (f (4 * n + 0))) (f (4 * n + 1))) (f k)) (f (suc (suc (suc (4 * n)))))) e2
    ∙ ap (λ (k : ℕ). bit_xor (bit_xor (bit_xor (bit_xor s (f (4 * n + 0))) (f (4 * n + 1))) (f (4 * n + 2))) (f k)) e3
    ∙ four_apart s (xor_sum (λ i. f (4 * i + 0)) n) (xor_sum (λ i. f (4 * i + 1)) n) (xor_sum (λ i. f (4 * i + 2)) n) (xor_sum (λ i. f (4 * i + 3)) n) (f (4 * n + 0)) (f (4 * n + 1)) (f (4 * n + 2)) (f (4 * n + 3)) (four_lanes f n)

low_bit : (x i : ℕ) → i < 64 → bit_at (x % 2 ^ 64) i ≡ bit_at x i
low_bit x i lt = ap (λ (n : ℕ). bit_at n i) (sym (and_mask x 64)) ∙ bit_at_and x (2 ^ 64 - 1) i ∙ (omega (arith, bit_at_ones 64 i lt))

pub of_chosen : (f : ℕ → ℕ) → IsLinear f → (b : Bool) (v : ℕ) → f (cond b v 0) ≡ cond b (f v) 0
of_chosen f h true v = refl
of_chosen f h false v = of_zero f h

-- what keeps sums, of a product
pub half_of_product : (f : ℕ → ℕ) (words : List ℕ) (x y : ℕ) → IsLinear f → ((i : ℕ) → i < 128 → get_or words i 0 ≡ f (block_times_power y i))
    → bit_xor (chosen_words words 0 (x / 2 ^ 64)) (chosen_words words 64 (x % 2 ^ 64)) ≡ f (product x y)
unfolding chosen_words product
half_of_product f words x y h is =
    let g = λ (i : ℕ). f (block_term x y i) in
    let term : (i : ℕ) → i < 128 → cond (eqb (bit_at x (127 - i)) 1) (get_or words i 0) 0 ≡ g i = λ i lt.
    ap (λ (w : ℕ). cond (eqb (bit_at x (127 - i)) 1) w 0) (is i lt) ∙ sym (of_chosen f h (eqb (bit_at x (127 - i)) 1) (block_times_power y i)) in
    let front = sums_same (λ i. cond (eqb (bit_at (x / 2 ^ 64) (63 - i)) 1) (get_or words (0 + i) 0) 0) g 64 (λ i lt.
    let place : 64 + (63 - i) ≡ 127 - i = omega arith in
    let start : 0 + i ≡ i = omega arith in
    ap (λ (b : ℕ). cond (eqb (b % 2) 1) (get_or words (0 + i) 0) 0) (shr-shr x 64 (63 - i) ∙ ap (λ (k : ℕ). x / 2 ^ k) place) ∙ ap (λ (k : ℕ). cond (eqb (bit_at x (127 - i)) 1) (get_or words k 0) 0) start ∙ term i (omega arith)) in
    let back : (i : ℕ) → i < 64 → cond (eqb (bit_at (x % 2 ^ 64) (63 - i)) 1) (get_or words (64 + i) 0) 0 ≡ g (64 + i) = λ i lt.
    let place : 63 - i ≡ 127 - (64 + i) = omega arith in
    ap (λ (b : ℕ). cond (eqb b 1) (get_or words (64 + i) 0) 0) (low_bit x (63 - i) (omega arith) ∙ ap (bit_at x) place) ∙ term (64 + i) (omega arith) in
    ap (λ (s : ℕ). bit_xor s (xor_sum (λ i. cond (eqb (bit_at (x % 2 ^ 64) (63 - i)) 1) (get_or words (64 + i) 0) 0) 64)) front
    ∙ sum_joined g (λ i. cond (eqb (bit_at (x % 2 ^ 64) (63 - i)) 1) (get_or words (64 + i) 0) 0) 64 64 back
    ∙ sym (of_sum f (block_term x y) 128 h)

upper_linear : IsLinear (λ v. v / 2 ^ 64)
upper_linear = record { keeps = λ a b. xor_shr a b 64 }

lower_linear : IsLinear (λ v. v % 2 ^ 64)
lower_linear = record { keeps = λ a b. xor_mod a b 64 }

-- two halves, put together
pub halves_joined : (high low : List ℕ) (x y a b c d : ℕ) → HasPowers high low y → a ≡ chosen_words high 0 (x / 2 ^ 64) → b ≡ chosen_words high 64 (x % 2 ^ 64)
    → c ≡ chosen_words low 0 (x / 2 ^ 64) → d ≡ chosen_words low 64 (x % 2 ^ 64) → product x y < 2 ^ 128 → bit_or (bit_xor a b * 2 ^ 64 % 2 ^ 128) (bit_xor c d) ≡ product x y
halves_joined high low x y a b c d h ea eb ec ed small =
    let p = product x y in
    let upper : bit_xor a b ≡ p / 2 ^ 64 = (cc (ea, eb)) ∙ half_of_product (λ v. v / 2 ^ 64) high x y upper_linear h.upper in
    let lower : bit_xor c d ≡ p % 2 ^ 64 = (cc (ec, ed)) ∙ half_of_product (λ v. v % 2 ^ 64) low x y lower_linear h.lower in
    let fits : p / 2 ^ 64 < 2 ^ 64 = omega arith in
    ap (λ (v : ℕ). bit_or (v * 2 ^ 64 % 2 ^ 128) (bit_xor c d)) upper ∙ ap (bit_or (p / 2 ^ 64 * 2 ^ 64 % 2 ^ 128)) lower
    ∙ ap (λ (v : ℕ). bit_or v (p % 2 ^ 64)) (shl_whole (p / 2 ^ 64) 64 64 128 fits (omega arith)) ∙ or_shifted (p / 2 ^ 64) 64 (p % 2 ^ 64) (omega arith) ∙ shr_split p 64

-- ---- tags that are compared

pub apart_none : (a b : ℕ) → bit_xor a b ≡ 0 → a ≡ b
apart_none a b e = sym (xor_zero_r a) ∙ ap (bit_xor a) (sym (xor_self b)) ∙ sym (xor_assoc a b b) ∙ ap (λ (n : ℕ). bit_xor n b) e

pub or_none : (a b : ℕ) → bit_or a b ≡ 0 → (a ≡ 0) × (b ≡ 0)
or_none a b e = (omega (arith, le_or_l a b), omega (arith, le_or_r a b))
