-- Products of blocks: linear in both factors, and products by one factor follow each other in any order.
use Rattle.std.proofs.Common.{◌≡◌, ℕ, zero, suc, ◌+◌, ◌-◌, ◌*◌, ◌/◌, ◌%◌, ◌^◌, ◌<◌, Bool, true, false, cond, eqb, List, get_or, map, bit_xor, refl, sym, ap, ◌∙◌, arith, inl, inr}
use Rattle.std.specs.Int.{bit_at}
use Rattle.std.specs.Int.Bits.{xor_assoc, xor_zero_r, xor_self}
use Rattle.std.specs.List.{range_with_len}
use Rattle.std.proofs.lemmas.Bool.{cases_lt}
use Rattle.std.proofs.lemmas.Nat.{xor_comm, xor_shr, xor_mod, xor_lt, xor_block, shr-shr, pow_pos}
use Rattle.std.proofs.lemmas.List.FromFn.{get_or-map-range_with_len}
use Rattle.st_aes.proofs.Bits.{bit_at_sum}
use Rattle.st_aes.specs.ByteField.{xor_sum}
use Rattle.st_aes.specs.BlockField.{block_times_x, block_times_power, block_term, product, repeated, hash_from}

pub xor_swap : (a b c d : ℕ) → bit_xor (bit_xor a b) (bit_xor c d) ≡ bit_xor (bit_xor a c) (bit_xor b d)
xor_swap a b c d =
    xor_assoc a b (bit_xor c d) ∙ ap (bit_xor a) (sym (xor_assoc b c d) ∙ ap (λ (n : ℕ). bit_xor n d) (xor_comm b c) ∙ xor_assoc c b d) ∙ sym (xor_assoc a c (bit_xor b d))

-- ---- what keeps sums

pub record IsLinear (f : ℕ → ℕ) : Type 0 where
  pub keeps : (a b : ℕ) → f (bit_xor a b) ≡ bit_xor (f a) (f b)

pub of_zero : (f : ℕ → ℕ) → IsLinear f → f 0 ≡ 0
of_zero f h = h.keeps 0 0 ∙ xor_self (f 0)

pub of_sum : (f g : ℕ → ℕ) (n : ℕ) → IsLinear f → f (xor_sum g n) ≡ xor_sum (λ i. f (g i)) n
of_sum f g zero h = of_zero f h
of_sum f g (suc n) h = h.keeps (xor_sum g n) (g n) ∙ ap (λ (s : ℕ). bit_xor s (f (g n))) (of_sum f g n h)

pub sums_added : (f g h : ℕ → ℕ) (n : ℕ) → ((i : ℕ) → i < n → h i ≡ bit_xor (f i) (g i)) → xor_sum h n ≡ bit_xor (xor_sum f n) (xor_sum g n)
sums_added f g h zero is = refl
sums_added f g h (suc n) is =
    ap (λ (s : ℕ). bit_xor s (h n)) (sums_added f g h n (λ i lt. is i (omega arith))) ∙ ap (bit_xor (bit_xor (xor_sum f n) (xor_sum g n))) (is n (omega arith))
    ∙ xor_swap (xor_sum f n) (xor_sum g n) (f n) (g n)

pub sums_same : (f g : ℕ → ℕ) (n : ℕ) → ((i : ℕ) → i < n → f i ≡ g i) → xor_sum f n ≡ xor_sum g n
sums_same f g zero same = refl
sums_same f g (suc n) same = ap (λ (s : ℕ). bit_xor s (f n)) (sums_same f g n (λ i lt. same i (omega arith))) ∙ ap (bit_xor (xor_sum g n)) (same n (omega arith))

sums_moved : (f g : ℕ → ℕ) (n : ℕ) → f 0 ≡ 0 → ((i : ℕ) → i < n → f (suc i) ≡ g i) → xor_sum f (suc n) ≡ xor_sum g n
sums_moved f g zero first same = first
sums_moved f g (suc n) first same = ap (λ (s : ℕ). bit_xor s (f (suc n))) (sums_moved f g n first (λ i lt. same i (omega arith))) ∙ ap (bit_xor (xor_sum g n)) (same n (omega arith))

pub sum_small : (k : ℕ) (f : ℕ → ℕ) (n : ℕ) → ((i : ℕ) → i < n → f i < 2 ^ k) → xor_sum f n < 2 ^ k
sum_small k f zero small = pow_pos k
sum_small k f (suc n) small = xor_lt k (xor_sum f n) (f n) (sum_small k f n (λ i lt. small i (omega arith))) (small n (omega arith))

-- ---- a block times x

halves : (x y e m n : ℕ) → m < 2 → n < 2
    → cond (eqb (bit_xor m n) 1) (bit_xor (bit_xor x y) e) (bit_xor x y) ≡ bit_xor (cond (eqb m 1) (bit_xor x e) x) (cond (eqb n 1) (bit_xor y e) y)
halves x y e zero zero p q = refl
halves x y e (suc zero) zero p q = xor_assoc x y e ∙ ap (bit_xor x) (xor_comm y e) ∙ sym (xor_assoc x e y)
halves x y e zero (suc zero) p q = xor_assoc x y e
halves x y e (suc zero) (suc zero) p q = sym (xor_swap x e y e ∙ ap (bit_xor (bit_xor x y)) (xor_self e) ∙ xor_zero_r (bit_xor x y))
halves x y e (suc (suc m)) n p q = absurd (omega arith)
halves x y e zero (suc (suc n)) p q = absurd (omega arith)
halves x y e (suc zero) (suc (suc n)) p q = absurd (omega arith)

pub times_x_linear : IsLinear block_times_x
unfolding block_times_x
times_x_linear = record { keeps = times_x_sum }
  where
    times_x_sum : (a b : ℕ) → block_times_x (bit_xor a b) ≡ bit_xor (block_times_x a) (block_times_x b)
    times_x_sum a b =
        let e = 0xe1 * 2 ^ 120 in
        ap (λ (n : ℕ). cond (eqb n 1) (bit_xor (bit_xor a b / 2) e) (bit_xor a b / 2)) (xor_mod a b 1)
        ∙ ap (λ (n : ℕ). cond (eqb (bit_xor (a % 2) (b % 2)) 1) (bit_xor n e) n) (xor_shr a b 1) ∙ halves (a / 2) (b / 2) e (a % 2) (b % 2) (omega arith) (omega arith)

pub power_linear : (n : ℕ) → IsLinear (λ v. block_times_power v n)
power_linear zero = record { keeps = λ a b. refl }
power_linear (suc n) = record { keeps = λ a b. ap block_times_x ((power_linear n).keeps a b) ∙ times_x_linear.keeps (block_times_power a n) (block_times_power b n) }

pub times_x_small : (v : ℕ) → v < 2 ^ 128 → block_times_x v < 2 ^ 128
unfolding block_times_x
times_x_small v lt = go (eqb (v % 2) 1)
  where
    go : (b : Bool) → cond b (bit_xor (v / 2) (0xe1 * 2 ^ 120)) (v / 2) < 2 ^ 128
    go true = xor_lt 128 (v / 2) (0xe1 * 2 ^ 120) (omega arith) (omega arith)
    go false = omega arith

pub power_small : (v n : ℕ) → v < 2 ^ 128 → block_times_power v n < 2 ^ 128
power_small v zero lt = lt
power_small v (suc n) lt = times_x_small (block_times_power v n) (power_small v n lt)

-- ---- products

chosen : (v m n : ℕ) → m < 2 → n < 2 → cond (eqb (bit_xor m n) 1) v 0 ≡ bit_xor (cond (eqb m 1) v 0) (cond (eqb n 1) v 0)
chosen v zero zero p q = refl
chosen v (suc zero) zero p q = sym (xor_zero_r v)
chosen v zero (suc zero) p q = refl
chosen v (suc zero) (suc zero) p q = sym (xor_self v)
chosen v (suc (suc m)) n p q = absurd (omega arith)
chosen v zero (suc (suc n)) p q = absurd (omega arith)
chosen v (suc zero) (suc (suc n)) p q = absurd (omega arith)

pub product_linear : (y : ℕ) → IsLinear (λ x. product x y)
unfolding product
product_linear y = record { keeps = keeps }
  where
    keeps : (a b : ℕ) → product (bit_xor a b) y ≡ bit_xor (product a y) (product b y)
    keeps a b =
        sums_added (block_term a y) (block_term b y) (block_term (bit_xor a b) y) 128 (λ i lt.
        ap (λ (n : ℕ). cond (eqb n 1) (block_times_power y i) 0) (bit_at_sum a b (127 - i)) ∙ chosen (block_times_power y i) (bit_at a (127 - i)) (bit_at b (127 - i)) (omega arith) (omega arith))

either : (t : Bool) (u v w : ℕ) → w ≡ bit_xor u v → cond t w 0 ≡ bit_xor (cond t u 0) (cond t v 0)
either true u v w e = e
either false u v w e = refl

pub product_linear_right : (x : ℕ) → IsLinear (product x)
unfolding product
product_linear_right x = record { keeps = keeps }
  where
    keeps : (a b : ℕ) → product x (bit_xor a b) ≡ bit_xor (product x a) (product x b)
    keeps a b =
        sums_added (block_term x a) (block_term x b) (block_term x (bit_xor a b)) 128 (λ i lt.
        either (eqb (bit_at x (127 - i)) 1) (block_times_power a i) (block_times_power b i) (block_times_power (bit_xor a b) i) ((power_linear i).keeps a b))

pub product_small : (x y : ℕ) → y < 2 ^ 128 → product x y < 2 ^ 128
unfolding product
product_small x y lt = sum_small 128 (block_term x y) 128 (λ i few. go (eqb (bit_at x (127 - i)) 1) i)
  where
    go : (b : Bool) (i : ℕ) → cond b (block_times_power y i) 0 < 2 ^ 128
    go true i = power_small y i lt
    go false i = omega arith

-- two that keep sums are one if they are one at the powers of two
pub by_bits : (f g : ℕ → ℕ) → IsLinear f → IsLinear g → (n : ℕ) → ((k : ℕ) → k < n → f (2 ^ k) ≡ g (2 ^ k)) → (h : ℕ) → h < 2 ^ n → f h ≡ g h
by_bits f g F G zero same h lt =
    let none : h ≡ 0 = omega arith in
    ap f none ∙ of_zero f F ∙ sym (ap g none ∙ of_zero g G)
by_bits f g F G (suc n) same h lt = elim (cases_lt h (2 ^ n)) [
  | inl low ↦ by_bits f g F G n (λ k less. same k (omega arith)) h low
  | inr high ↦
      let r = h - 2 ^ n in
      let small : r < 2 ^ n = omega arith in
      let left : 1 * 2 ^ n + 0 ≡ 2 ^ n = omega arith in
      let right : 0 * 2 ^ n + r ≡ r = omega arith in
      let whole : 1 * 2 ^ n + r ≡ h = omega arith in
      let split : bit_xor (1 * 2 ^ n + 0) (0 * 2 ^ n + r) ≡ 1 * 2 ^ n + r = xor_block n 1 0 0 r (pow_pos n) small in
      let parts : bit_xor (2 ^ n) r ≡ h = ap (λ (m : ℕ). bit_xor m r) (sym left) ∙ ap (bit_xor (1 * 2 ^ n + 0)) (sym right) ∙ split ∙ whole in
      ap f (sym parts) ∙ F.keeps (2 ^ n) r ∙ ap (λ (m : ℕ). bit_xor m (f r)) (same n (omega arith)) ∙ ap (bit_xor (g (2 ^ n))) (by_bits f g F G n (λ k less. same k (omega arith)) r small)
      ∙ sym (G.keeps (2 ^ n) r) ∙ ap g parts
]

-- x^128 is 1 + x + x^2 + x^7
remainder : ℕ
remainder = 0xe1 * 2 ^ 120

powers_reduced : map (λ k. product remainder (2 ^ k)) (range_with_len 0 128) ≡ map (λ k. block_times_power (2 ^ k) 128) (range_with_len 0 128)
unfolding product block_times_x remainder
powers_reduced = refl

reduced : (h : ℕ) → h < 2 ^ 128 → product remainder h ≡ block_times_power h 128
reduced h lt =
    let f = product remainder in
    let g = λ (v : ℕ). block_times_power v 128 in
    by_bits f g (product_linear_right remainder) (power_linear 128) 128
    (λ k few. sym (get_or-map-range_with_len (λ k. f (2 ^ k)) 0 128 k k 0 few (omega arith)) ∙ ap (λ (l : List ℕ). get_or l k 0) powers_reduced ∙ get_or-map-range_with_len (λ k. g (2 ^ k)) 0 128 k k 0 few (omega arith)) h lt

times_x_chosen : (b : Bool) (v : ℕ) → block_times_x (cond b v 0) ≡ cond b (block_times_x v) 0
unfolding block_times_x
times_x_chosen true v = refl
times_x_chosen false v = refl

-- a product of half a block, which has all places but the last
half_product : (x h : ℕ) → x < 2 ^ 128 → product (x / 2) h ≡ xor_sum (λ i. block_times_x (block_term x h i)) 127
unfolding product
half_product x h lt =
    let top : bit_at (x / 2) 127 ≡ 0 = omega arith in
    sums_moved (block_term (x / 2) h) (λ i. block_times_x (block_term x h i)) 127 (ap (λ (b : ℕ). cond (eqb b 1) h 0) top) (λ i few.
    let place : 1 + (127 - suc i) ≡ 127 - i = omega arith in
    let b : bit_at (x / 2) (127 - suc i) ≡ bit_at x (127 - i) = ap (λ (n : ℕ). n % 2) (shr-shr x 1 (127 - suc i) ∙ ap (λ (k : ℕ). x / 2 ^ k) place) in
    ap (λ (m : ℕ). cond (eqb m 1) (block_times_power h (suc i)) 0) b ∙ sym (times_x_chosen (eqb (bit_at x (127 - i)) 1) (block_times_power h i)))

times_x_of_product : (x h : ℕ) → block_times_x (product x h) ≡ bit_xor (xor_sum (λ i. block_times_x (block_term x h i)) 127) (block_times_x (block_term x h 127))
unfolding product
times_x_of_product x h = of_sum block_times_x (block_term x h) 128 times_x_linear

-- the last place of x is clear, or set
inside_even : (x h : ℕ) → x < 2 ^ 128 → x % 2 ≡ 0 → product (block_times_x x) h ≡ block_times_x (product x h)
unfolding block_times_x
inside_even x h lx even =
    let moved : block_times_x x ≡ x / 2 = ap (λ (b : ℕ). cond (eqb b 1) (bit_xor (x / 2) (0xe1 * 2 ^ 120)) (x / 2)) even in
    let low : bit_at x 0 ≡ 0 = omega arith in
    let last : block_times_x (block_term x h 127) ≡ 0 = ap (λ (b : ℕ). block_times_x (cond (eqb b 1) (block_times_power h 127) 0)) low in
    ap (λ (v : ℕ). product v h) moved ∙ half_product x h lx
    ∙ sym (times_x_of_product x h ∙ ap (bit_xor (xor_sum (λ i. block_times_x (block_term x h i)) 127)) last ∙ xor_zero_r (xor_sum (λ i. block_times_x (block_term x h i)) 127))

inside_odd : (x h : ℕ) → x < 2 ^ 128 → h < 2 ^ 128 → x % 2 ≡ 1 → product (block_times_x x) h ≡ block_times_x (product x h)
unfolding block_times_x remainder
inside_odd x h lx lh odd =
    let moved : block_times_x x ≡ bit_xor (x / 2) remainder = ap (λ (b : ℕ). cond (eqb b 1) (bit_xor (x / 2) (0xe1 * 2 ^ 120)) (x / 2)) odd in
    let low : bit_at x 0 ≡ 1 = omega arith in
    let last : block_times_x (block_term x h 127) ≡ block_times_power h 128 = ap (λ (b : ℕ). block_times_x (cond (eqb b 1) (block_times_power h 127) 0)) low in
    ap (λ (v : ℕ). product v h) moved ∙ (product_linear h).keeps (x / 2) remainder ∙ ap (λ (v : ℕ). bit_xor v (product remainder h)) (half_product x h lx)
    ∙ ap (bit_xor (xor_sum (λ i. block_times_x (block_term x h i)) 127)) (reduced h lh ∙ sym last) ∙ sym (times_x_of_product x h)

pub times_x_inside : (x h : ℕ) → x < 2 ^ 128 → h < 2 ^ 128 → product (block_times_x x) h ≡ block_times_x (product x h)
times_x_inside x h lx lh = go (x % 2) refl
  where
    go : (b : ℕ) → x % 2 ≡ b → product (block_times_x x) h ≡ block_times_x (product x h)
    go zero e = inside_even x h lx e
    go (suc zero) e = inside_odd x h lx lh e
    go (suc (suc b)) e = absurd (omega arith)

-- ---- several products by one factor

pub repeated_linear : (h n : ℕ) → IsLinear (repeated h n)
unfolding repeated
repeated_linear h zero = record { keeps = λ a b. refl }
repeated_linear h (suc n) = record { keeps = λ a b. ap (λ (v : ℕ). product v h) ((repeated_linear h n).keeps a b) ∙ (product_linear h).keeps (repeated h n a) (repeated h n b) }

repeated_small : (h n x : ℕ) → h < 2 ^ 128 → x < 2 ^ 128 → repeated h n x < 2 ^ 128
unfolding repeated
repeated_small h zero x lh lx = lx
repeated_small h (suc n) x lh lx = product_small (repeated h n x) h lh

repeated_times_x : (h n x : ℕ) → h < 2 ^ 128 → x < 2 ^ 128 → repeated h n (block_times_x x) ≡ block_times_x (repeated h n x)
unfolding repeated
repeated_times_x h zero x lh lx = refl
repeated_times_x h (suc n) x lh lx = ap (λ (v : ℕ). product v h) (repeated_times_x h n x lh lx) ∙ times_x_inside (repeated h n x) h (repeated_small h n x lh lx) lh

repeated_power : (h n x i : ℕ) → h < 2 ^ 128 → x < 2 ^ 128 → repeated h n (block_times_power x i) ≡ block_times_power (repeated h n x) i
unfolding repeated
repeated_power h n x zero lh lx = refl
repeated_power h n x (suc i) lh lx = repeated_times_x h n (block_times_power x i) lh (power_small x i lx) ∙ ap block_times_x (repeated_power h n x i lh lx)

repeated_inside : (h n x : ℕ) → repeated h n (product x h) ≡ product (repeated h n x) h
unfolding repeated
repeated_inside h zero x = refl
repeated_inside h (suc n) x = ap (λ (v : ℕ). product v h) (repeated_inside h n x)

repeated_chosen : (h n : ℕ) (b : Bool) (v : ℕ) → repeated h n (cond b v 0) ≡ cond b (repeated h n v) 0
repeated_chosen h n true v = refl
repeated_chosen h n false v = of_zero (repeated h n) (repeated_linear h n)

by_repeated : (h n x y : ℕ) → h < 2 ^ 128 → y < 2 ^ 128 → product x (repeated h n y) ≡ repeated h n (product x y)
unfolding product
by_repeated h n x y lh ly =
    sums_same (block_term x (repeated h n y)) (λ i. repeated h n (block_term x y i)) 128 (λ i few.
    let b = eqb (bit_at x (127 - i)) 1 in
    ap (λ (v : ℕ). cond b v 0) (sym (repeated_power h n y i lh ly)) ∙ sym (repeated_chosen h n b (block_times_power y i)))
    ∙ sym (of_sum (repeated h n) (block_term x y) 128 (repeated_linear h n))

-- a product by the power of h
pub product_by_power : (h n x : ℕ) → h < 2 ^ 128 → product x (repeated h n h) ≡ repeated h (suc n) x
unfolding repeated
product_by_power h n x lh = by_repeated h n x h lh lh ∙ repeated_inside h n x

repeated_none : (h x : ℕ) → repeated h 0 x ≡ x
unfolding repeated
repeated_none h x = refl

repeated_next : (h n x : ℕ) → repeated h (suc n) x ≡ product (repeated h n x) h
unfolding repeated
repeated_next h n x = refl

repeated_joined : (h m n x : ℕ) → repeated h m (repeated h n x) ≡ repeated h (m + n) x
unfolding repeated
repeated_joined h zero n x = let e : n ≡ 0 + n = omega arith in ap (λ (k : ℕ). repeated h k x) e
repeated_joined h (suc m) n x =
    let e : suc (m + n) ≡ suc m + n = omega arith in
    ap (λ (v : ℕ). product v h) (repeated_joined h m n x) ∙ ap (λ (k : ℕ). repeated h k x) e

-- k times the fourth power are 4 * k times h
by_fourths : (h k x : ℕ) → h < 2 ^ 128 → repeated (repeated h 3 h) k x ≡ repeated h (4 * k) x
by_fourths h zero x lh = repeated_none (repeated h 3 h) x ∙ sym (repeated_none h x) ∙ (let e : 0 ≡ 4 * 0 = omega arith in ap (λ (n : ℕ). repeated h n x) e)
by_fourths h (suc k) x lh =
    let e : 4 + 4 * k ≡ 4 * suc k = omega arith in
    repeated_next (repeated h 3 h) k x ∙ product_by_power h 3 (repeated (repeated h 3 h) k x) lh ∙ ap (repeated h 4) (by_fourths h k x lh) ∙ repeated_joined h 4 (4 * k) x ∙ ap (λ (n : ℕ). repeated h n x) e

pub fourth_of_fourth : (h : ℕ) → h < 2 ^ 128 → repeated (repeated h 3 h) 3 (repeated h 3 h) ≡ repeated h 15 h
fourth_of_fourth h lh = by_fourths h 3 (repeated h 3 h) lh ∙ repeated_joined h 12 3 h

-- ---- hashes

from_start : (h y : ℕ) (s : ℕ → ℕ) (n : ℕ) → hash_from h y s n ≡ bit_xor (repeated h n y) (hash_from h 0 s n)
unfolding repeated hash_from
from_start h y s zero = sym (xor_zero_r y)
from_start h y s (suc n) =
    ap (λ (v : ℕ). product (bit_xor v (s n)) h) (from_start h y s n) ∙ ap (λ (v : ℕ). product v h) (xor_assoc (repeated h n y) (hash_from h 0 s n) (s n))
    ∙ (product_linear h).keeps (repeated h n y) (bit_xor (hash_from h 0 s n) (s n))

hash_of_sum : (h : ℕ) (s t : ℕ → ℕ) (n : ℕ) → hash_from h 0 (λ j. bit_xor (s j) (t j)) n ≡ bit_xor (hash_from h 0 s n) (hash_from h 0 t n)
unfolding hash_from
hash_of_sum h s t zero = refl
hash_of_sum h s t (suc n) =
    ap (λ (v : ℕ). product (bit_xor v (bit_xor (s n) (t n))) h) (hash_of_sum h s t n)
    ∙ ap (λ (v : ℕ). product v h) (xor_swap (hash_from h 0 s n) (hash_from h 0 t n) (s n) (t n))
    ∙ (product_linear h).keeps (bit_xor (hash_from h 0 s n) (s n)) (bit_xor (hash_from h 0 t n) (t n))

hash_of_repeated : (h m : ℕ) (s : ℕ → ℕ) (n : ℕ) → hash_from h 0 (λ j. repeated h m (s j)) n ≡ repeated h m (hash_from h 0 s n)
unfolding hash_from
hash_of_repeated h m s zero = sym (of_zero (repeated h m) (repeated_linear h m))
hash_of_repeated h m s (suc n) =
    ap (λ (v : ℕ). product (bit_xor v (repeated h m (s n))) h) (hash_of_repeated h m s n)
    ∙ ap (λ (v : ℕ). product v h) (sym ((repeated_linear h m).keeps (hash_from h 0 s n) (s n))) ∙ sym (repeated_inside h m (bit_xor (hash_from h 0 s n) (s n)))

pub hash_same : (h : ℕ) (s t : ℕ → ℕ) (n : ℕ) → ((j : ℕ) → j < n → s j ≡ t j) → hash_from h 0 s n ≡ hash_from h 0 t n
unfolding hash_from
hash_same h s t zero same = refl
hash_same h s t (suc n) same = ap (λ (v : ℕ). product (bit_xor v (s n)) h) (hash_same h s t n (λ j lt. same j (omega arith))) ∙ ap (λ (v : ℕ). product (bit_xor (hash_from h 0 t n) v) h) (same n (omega arith))

-- n blocks s, and n more, hash as n sums: each block times the n-th power, and one of those that follow
pub hash_joined : (h : ℕ) (s t : ℕ → ℕ) (n : ℕ) → h < 2 ^ 128 → hash_from h (hash_from h 0 s (suc n)) t (suc n) ≡ hash_from h 0 (λ j. bit_xor (product (s j) (repeated h n h)) (t j)) (suc n)
hash_joined h s t n lh =
    from_start h (hash_from h 0 s (suc n)) t (suc n)
    ∙ ap (λ (v : ℕ). bit_xor v (hash_from h 0 t (suc n))) (sym (hash_of_repeated h (suc n) s (suc n)))
    ∙ sym (hash_of_sum h (λ j. repeated h (suc n) (s j)) t (suc n))
    ∙ hash_same h (λ j. bit_xor (repeated h (suc n) (s j)) (t j)) (λ j. bit_xor (product (s j) (repeated h n h)) (t j)) (suc n) (λ j lt. ap (λ (v : ℕ). bit_xor v (t j)) (sym (product_by_power h n (s j) lh)))

-- the first m blocks, and n after them
pub hash_split : (h y : ℕ) (s : ℕ → ℕ) (m n : ℕ) → hash_from h y s (m + n) ≡ hash_from h (hash_from h y s m) (λ j. s (m + j)) n
unfolding hash_from
hash_split h y s m zero = let e : m + 0 ≡ m = omega arith in ap (hash_from h y s) e
hash_split h y s m (suc n) =
    let e : m + suc n ≡ suc (m + n) = omega arith in
    ap (hash_from h y s) e ∙ ap (λ (v : ℕ). product (bit_xor v (s (m + n))) h) (hash_split h y s m n)

pub hash_zero : (h : ℕ) (s : ℕ → ℕ) (n : ℕ) → ((j : ℕ) → j < n → s j ≡ 0) → hash_from h 0 s n ≡ 0
unfolding hash_from
hash_zero h s zero none = refl
hash_zero h s (suc n) none =
    ap (λ (v : ℕ). product (bit_xor v (s n)) h) (hash_zero h s n (λ j lt. none j (omega arith))) ∙ ap (λ (v : ℕ). product (bit_xor 0 v) h) (none n (omega arith)) ∙ of_zero (λ x. product x h) (product_linear h)

-- sixteen sums, and sixteen blocks after those with the same hash
pub sixteen_more : (h : ℕ) (s next x : ℕ → ℕ) (m : ℕ) → h < 2 ^ 128 → hash_from h 0 s 16 ≡ hash_from h 0 x m
    → ((j : ℕ) → j < 16 → next j ≡ bit_xor (x (m + j)) (product (s j) (repeated h 15 h))) → hash_from h 0 next 16 ≡ hash_from h 0 x (m + 16)
sixteen_more h s next x m lh before is =
    hash_same h next (λ j. bit_xor (product (s j) (repeated h 15 h)) (x (m + j))) 16 (λ j lt. is j lt ∙ xor_comm (x (m + j)) (product (s j) (repeated h 15 h)))
    ∙ sym (hash_joined h s (λ j. x (m + j)) 15 lh) ∙ ap (λ (y : ℕ). hash_from h y (λ j. x (m + j)) 16) before ∙ sym (hash_split h 0 x m 16)

pub hash_next : (h y : ℕ) (s : ℕ → ℕ) (n v w : ℕ) → v ≡ hash_from h y s n → w ≡ s n → product (bit_xor v w) h ≡ hash_from h y s (n + 1)
unfolding hash_from
hash_next h y s n v w e f =
    let next : suc n ≡ n + 1 = omega arith in
    ap (λ (u : ℕ). product (bit_xor u w) h) e ∙ ap (λ (u : ℕ). product (bit_xor (hash_from h y s n) u) h) f ∙ ap (hash_from h y s) next

pub hash_none : (h : ℕ) (s : ℕ → ℕ) → hash_from h 0 s 0 ≡ 0
unfolding hash_from
hash_none h s = refl
