-- Sums of four powers, byte by byte.
use Rattle.std.proofs.Common.{◌≡◌, ℕ, suc, ◌+◌, ◌-◌, ◌*◌, ◌/◌, ◌%◌, ◌^◌, ◌<◌, Bool, true, false, cond, eqb, List, [], ◌∷◌, length, get_or, replicate, bit_xor, bit_and, w8, refl, sym, ap, ◌∙◌, arith}
use Rattle.std.specs.Int.{bit_at, bytes_high_first}
use Rattle.std.specs.Int.Bits.{xor_zero_r}
use Rattle.std.specs.Simd.Lanes.{zip2, number_l, digits_l}
use Rattle.std.proofs.lemmas.Nat.{xor_shr, xor_mod, xor_comm, xor_block, shr-shr, shr_split, and_mask, and_le_r}
use Rattle.std.proofs.lemmas.Simd.{swz_l, SwzOk, SwzOk-from_below, get_or-swz_l_below, Each1-all, Each1-zip2, Each2-splat, Each1-replicate, length-replicate, get_or-replicate, length-zip2, get_or-zip2, get_or_narrower}
use Rattle.st_aes.proofs.Multiples.{bytes_power, byte_of_block}
use Rattle.st_aes.proofs.Linear.{IsLinear, of_sum, sums_same, power_linear}
use Rattle.st_aes.proofs.Masks.{of_chosen}
use Rattle.st_aes.proofs.Lookups.{below_sixteen}
use Rattle.st_aes.specs.BlockField.{block_times_x, block_times_power, four_bits}
use Rattle.st_aes.specs.Rows.{cell, folded_first, folded_second}

-- a byte of a sum of blocks is the sum of their bytes
pub byte_linear : (b : ℕ) → b < 16 → IsLinear (λ v. get_or (bytes_high_first 16 v) b 0)
byte_linear b lt = record {
  keeps = λ u v.
      let k = 8 * (15 - b) in
      byte_of_block b (bit_xor u v) lt ∙ ap (λ (n : ℕ). n % 256) (xor_shr u v k) ∙ xor_mod (u / 2 ^ k) (v / 2 ^ k) 8
      ∙ ap (λ (n : ℕ). bit_xor n (v / 2 ^ k % 256)) (sym (byte_of_block b u lt)) ∙ ap (bit_xor (get_or (bytes_high_first 16 u) b 0)) (sym (byte_of_block b v lt));
}

-- what keeps sums, of a sum of four powers
pub four_kept : (f g p : ℕ → ℕ) (k i n : ℕ) → IsLinear f → ((j : ℕ) → j < 4 → g (4 * k + j) ≡ f (p (4 * i + j))) → four_bits g k n ≡ f (four_bits p i n)
four_kept f g p k i n h is =
    sums_same (λ j. cond (eqb (bit_at n (3 - j)) 1) (g (4 * k + j)) 0) (λ j. f (cond (eqb (bit_at n (3 - j)) 1) (p (4 * i + j)) 0)) 4 (λ j few.
    let b = eqb (bit_at n (3 - j)) 1 in
    ap (λ (v : ℕ). cond b v 0) (is j few) ∙ sym (of_chosen f h b (p (4 * i + j))))
    ∙ sym (of_sum f (λ j. cond (eqb (bit_at n (3 - j)) 1) (p (4 * i + j)) 0) 4 h)

-- the bytes of a block out of its halves, the last one first
pub byte_of_halves : (v low high b : ℕ) → low ≡ v % 2 ^ 64 → high ≡ v / 2 ^ 64 → v < 2 ^ 128 → b < 16
    → get_or (digits_l 256 16 (number_l (2 ^ 64) (low ∷ high ∷ []))) (15 - b) 0 ≡ get_or (bytes_high_first 16 v) b 0
byte_of_halves v low high b el eh fits lt =
    let whole : number_l (2 ^ 64) (low ∷ high ∷ []) ≡ number_l (2 ^ 128) (v ∷ []) = omega (arith, el, eh) in
    let start : 15 - b ≡ 16 * 0 + (15 - b) = omega arith in
    ap (λ (n : ℕ). get_or (digits_l 256 16 n) (15 - b) 0) whole ∙ ap (λ (k : ℕ). get_or (digits_l 256 16 (number_l (2 ^ 128) (v ∷ []))) k 0) start
    ∙ get_or_narrower (2 ^ 128) 16 256 16 (v ∷ []) 0 (15 - b) refl (Each1-replicate (λ x. x < 2 ^ 128) 1 v fits) (omega arith) (omega arith)
    ∙ ap (λ (q : ℕ). v / q % 256) (bytes_power (15 - b)) ∙ sym (byte_of_block b v lt)

-- ---- four vectors, each added if a bit is set

abbrev picked : Bool → List ℕ → List ℕ
picked b v = cond b v (replicate 16 0)

picked_long : (b : Bool) (v : List ℕ) → length v ≡ 16 → length (picked b v) ≡ 16
picked_long true v long = long
picked_long false v long = refl

picked_lane : (b : Bool) (v : List ℕ) (l : ℕ) → l < 16 → get_or (picked b v) l 0 ≡ cond b (get_or v l 0) 0
picked_lane true v l lt = refl
picked_lane false v l lt = get_or-replicate 16 l 0 0 lt

pub added_lane : (u v : List ℕ) (l : ℕ) → length u ≡ 16 → length v ≡ 16 → l < 16 → get_or (zip2 bit_xor u v) l 0 ≡ bit_xor (get_or u l 0) (get_or v l 0)
added_lane u v l lu lv lt = get_or-zip2 bit_xor u v l 0 0 0 (omega arith) (omega arith)

added_long : (u v : List ℕ) → length u ≡ 16 → length v ≡ 16 → length (zip2 bit_xor u v) ≡ 16
added_long u v lu lv = length-zip2 bit_xor u v (lu ∙ sym lv) ∙ lu

-- the sum of those of four vectors whose bits of n are set
pub sum_lane : (p q r s a b c d sum : List ℕ) (n l : ℕ) → length p ≡ 16 → length q ≡ 16 → length r ≡ 16 → length s ≡ 16 → l < 16
    → a ≡ cond (eqb (bit_at n 3) 1) p (replicate 16 0) → b ≡ cond (eqb (bit_at n 2) 1) q (replicate 16 0)
    → c ≡ cond (eqb (bit_at n 1) 1) r (replicate 16 0) → d ≡ cond (eqb (bit_at n 0) 1) s (replicate 16 0)
    → sum ≡ zip2 bit_xor (zip2 bit_xor (zip2 bit_xor a b) c) d → get_or sum l 0 ≡ four_bits (λ j. cell (p ∷ q ∷ r ∷ s ∷ []) j l) 0 n
sum_lane p q r s a b c d sum n l lp lq lr ls lt ea eb ec ed is =
    let u = picked (eqb (bit_at n 3) 1) p in
    let v = picked (eqb (bit_at n 2) 1) q in
    let w = picked (eqb (bit_at n 1) 1) r in
    let z = picked (eqb (bit_at n 0) 1) s in
    let lu = picked_long (eqb (bit_at n 3) 1) p lp in
    let lv = picked_long (eqb (bit_at n 2) 1) q lq in
    let lw = picked_long (eqb (bit_at n 1) 1) r lr in
    let lz = picked_long (eqb (bit_at n 0) 1) s ls in
    let luv = added_long u v lu lv in
    let luvw = added_long (zip2 bit_xor u v) w luv lw in
    let first : bit_xor 0 (cond (eqb (bit_at n 3) 1) (get_or p l 0) 0) ≡ cond (eqb (bit_at n 3) 1) (get_or p l 0) 0 = xor_comm 0 _ ∙ xor_zero_r _ in
    ap (λ (t : List ℕ). get_or t l 0) (is ∙ ap (λ (t : List ℕ). zip2 bit_xor (zip2 bit_xor (zip2 bit_xor t b) c) d) ea ∙ ap (λ (t : List ℕ). zip2 bit_xor (zip2 bit_xor (zip2 bit_xor u t) c) d) eb
    ∙ ap (λ (t : List ℕ). zip2 bit_xor (zip2 bit_xor (zip2 bit_xor u v) t) d) ec ∙ ap (zip2 bit_xor (zip2 bit_xor (zip2 bit_xor u v) w)) ed)
    ∙ added_lane (zip2 bit_xor (zip2 bit_xor u v) w) z l luvw lz lt
    ∙ ap (λ (m : ℕ). bit_xor m (get_or z l 0)) (added_lane (zip2 bit_xor u v) w l luv lw lt ∙ ap (λ (m : ℕ). bit_xor m (get_or w l 0)) (added_lane u v l lu lv lt
    ∙ ap (λ (m : ℕ). bit_xor m (get_or v l 0)) (picked_lane (eqb (bit_at n 3) 1) p l lt ∙ sym first) ∙ ap (bit_xor (bit_xor 0 (cond (eqb (bit_at n 3) 1) (get_or p l 0) 0))) (picked_lane (eqb (bit_at n 2) 1) q l lt))
    ∙ ap (bit_xor (bit_xor (bit_xor 0 (cond (eqb (bit_at n 3) 1) (get_or p l 0) 0)) (cond (eqb (bit_at n 2) 1) (get_or q l 0) 0))) (picked_lane (eqb (bit_at n 1) 1) r l lt))
    ∙ ap (bit_xor (bit_xor (bit_xor (bit_xor 0 (cond (eqb (bit_at n 3) 1) (get_or p l 0) 0)) (cond (eqb (bit_at n 2) 1) (get_or q l 0) 0)) (cond (eqb (bit_at n 1) 1) (get_or r l 0) 0))) (picked_lane (eqb (bit_at n 0) 1) s l lt)

-- ---- four bits further

lane_moved : (f : ℕ → ℕ → ℕ) (v : List ℕ) (k l : ℕ) → length v ≡ 16 → l < 16 → get_or (zip2 f v (replicate 16 k)) l 0 ≡ f (get_or v l 0) k
lane_moved f v k l long lt = get_or-zip2 f v (replicate 16 k) l 0 0 0 (omega arith) (omega (arith, length-replicate 16 k)) ∙ ap (f (get_or v l 0)) (get_or-replicate 16 l k 0 lt)

pub high_lane : (v : List ℕ) (l : ℕ) → length v ≡ 16 → l < 16 → get_or (zip2 (λ a m. a / 2 ^ m) v (replicate 16 4)) l 0 ≡ get_or v l 0 / 16
high_lane v l long lt = lane_moved (λ a m. a / 2 ^ m) v 4 l long lt

pub raised_lane : (v : List ℕ) (l : ℕ) → length v ≡ 16 → l < 16 → get_or (zip2 (λ a m. a * 2 ^ m % 2 ^ 8) v (replicate 16 4)) l 0 ≡ get_or v l 0 * 16 % 256
raised_lane v l long lt = lane_moved (λ a m. a * 2 ^ m % 2 ^ 8) v 4 l long lt

pub low_ok : (v : List ℕ) → length v ≡ 16 → SwzOk w8 16 16 0 (zip2 bit_and v (replicate 16 15))
low_ok v long =
    let small = Each1-all (λ a. bit_and a 15 < 16) (λ a. omega (arith, and_le_r a 15)) v in
    SwzOk-from_below w8 16 1 16 0 (zip2 bit_and v (replicate 16 15)) refl (omega (arith, length-zip2 bit_and v (replicate 16 15) long))
    (Each1-zip2 bit_and (λ j. j < 16) v (replicate 16 15) (Each2-splat (λ a b. bit_and a b < 16) v 16 15 small))

pub low_lane : (table v : List ℕ) (l : ℕ) → length v ≡ 16 → l < 16 → get_or (swz_l w8 16 table 0 (zip2 bit_and v (replicate 16 15))) l 0 ≡ get_or table (get_or v l 0 % 16) 0
low_lane table v l long lt =
    let js = zip2 bit_and v (replicate 16 15) in
    let is : get_or js l 0 ≡ get_or v l 0 % 16 = lane_moved bit_and v 15 l long lt ∙ and_mask (get_or v l 0) 4 in
    let place : 16 * ((0 + l) / 16) + get_or js l 0 ≡ get_or v l 0 % 16 = omega (arith, is) in
    get_or-swz_l_below w8 16 table 0 js l (omega (arith, length-zip2 bit_and v (replicate 16 15) long)) (omega (arith, is)) ∙ ap (λ (k : ℕ). get_or table k 0) place

halved : (w : ℕ) → block_times_x (2 * w) ≡ w
unfolding block_times_x
halved w =
    let even : 2 * w % 2 ≡ 0 = omega arith in
    let half : 2 * w / 2 ≡ w = omega arith in
    ap (λ (m : ℕ). cond (eqb m 1) (bit_xor (2 * w / 2) (0xe1 * 2 ^ 120)) (2 * w / 2)) even ∙ half

moved_down : (q : ℕ) → block_times_power (q * 2 ^ 4) 4 ≡ q
moved_down q =
    let e : q * 2 ^ 4 ≡ 2 * (2 * (2 * (2 * q))) = omega arith in
    ap (λ (v : ℕ). block_times_power v 4) e ∙ ap (λ (v : ℕ). block_times_x (block_times_x (block_times_x v))) (halved (2 * (2 * (2 * q))))
    ∙ ap (λ (v : ℕ). block_times_x (block_times_x v)) (halved (2 * (2 * q))) ∙ ap block_times_x (halved (2 * q)) ∙ halved q

-- a number is the sum of its higher bits and its last four
split : (v : ℕ) → v ≡ bit_xor (v / 2 ^ 4 * 2 ^ 4) (v % 2 ^ 4)
split v =
    let q = v / 2 ^ 4 in
    let r = v % 2 ^ 4 in
    let front : q * 2 ^ 4 + 0 ≡ q * 2 ^ 4 = omega arith in
    let back : 0 * 2 ^ 4 + r ≡ r = omega arith in
    sym (ap (λ (a : ℕ). bit_xor a r) (sym front) ∙ ap (bit_xor (q * 2 ^ 4 + 0)) (sym back) ∙ xor_block 4 q 0 0 r (omega arith) (omega arith)
    ∙ ap (λ (a : ℕ). a * 2 ^ 4 + bit_xor 0 r) (xor_zero_r q) ∙ ap (λ (a : ℕ). q * 2 ^ 4 + a) (xor_comm 0 r ∙ xor_zero_r r) ∙ shr_split v 4)

-- a block times x^4: its bits four places lower, and its last four bits times x^4
times_four : (v : ℕ) → block_times_power v 4 ≡ bit_xor (v / 2 ^ 4) (block_times_power (v % 2 ^ 4) 4)
times_four v =
    let q = v / 2 ^ 4 in
    let r = v % 2 ^ 4 in
    ap (λ (w : ℕ). block_times_power w 4) (split v) ∙ (power_linear 4).keeps (q * 2 ^ 4) r ∙ ap (λ (w : ℕ). bit_xor w (block_times_power r 4)) (moved_down q)

apart : (a d : ℕ) → a < 2 ^ 4 → bit_xor a (d * 2 ^ 4) ≡ a + d * 2 ^ 4
apart a d lt =
    let front : 0 * 2 ^ 4 + a ≡ a = omega arith in
    let back : d * 2 ^ 4 + 0 ≡ d * 2 ^ 4 = omega arith in
    let turn : d * 2 ^ 4 + a ≡ a + d * 2 ^ 4 = omega arith in
    ap (λ (n : ℕ). bit_xor n (d * 2 ^ 4)) (sym front) ∙ ap (bit_xor (0 * 2 ^ 4 + a)) (sym back) ∙ xor_block 4 0 d a 0 lt (omega arith)
    ∙ ap (λ (n : ℕ). n * 2 ^ 4 + bit_xor a 0) (xor_comm 0 d ∙ xor_zero_r d) ∙ ap (λ (n : ℕ). d * 2 ^ 4 + n) (xor_zero_r a) ∙ turn

-- its bytes
first_lower : (v : ℕ) → v < 2 ^ 128 → get_or (bytes_high_first 16 (v / 2 ^ 4)) 0 0 ≡ get_or (bytes_high_first 16 v) 0 0 / 16
first_lower v lt =
    let e : v / 2 ^ 4 / 2 ^ (8 * (15 - 0)) % 256 ≡ v / 2 ^ (8 * (15 - 0)) % 256 / 16 = omega arith in
    byte_of_block 0 (v / 2 ^ 4) (omega arith) ∙ e ∙ ap (λ (n : ℕ). n / 16) (sym (byte_of_block 0 v (omega arith)))

next_lower : (v b : ℕ) → b < 15
    → get_or (bytes_high_first 16 (v / 2 ^ 4)) (suc b) 0 ≡ bit_xor (get_or (bytes_high_first 16 v) (suc b) 0 / 16) (get_or (bytes_high_first 16 v) b 0 * 16 % 256)
next_lower v b lt =
    let k = 8 * (15 - suc b) in
    let q = v / 2 ^ k in
    let turn : 4 + k ≡ k + 4 = omega arith in
    let above : k + 8 ≡ 8 * (15 - b) = omega arith in
    let moved : v / 2 ^ 4 / 2 ^ k ≡ q / 2 ^ 4 = shr-shr v 4 k ∙ ap (λ (n : ℕ). v / 2 ^ n) turn ∙ sym (shr-shr v k 4) in
    let before : get_or (bytes_high_first 16 v) b 0 ≡ q / 2 ^ 8 % 256 = byte_of_block b v (omega arith) ∙ ap (λ (n : ℕ). v / 2 ^ n % 256) (sym above) ∙ ap (λ (n : ℕ). n % 256) (sym (shr-shr v k 8)) in
    let here : get_or (bytes_high_first 16 v) (suc b) 0 ≡ q % 256 = byte_of_block (suc b) v (omega arith) in
    let bits : q / 2 ^ 4 % 256 ≡ q % 256 / 16 + q / 2 ^ 8 % 16 * 2 ^ 4 = omega arith in
    let up : q / 2 ^ 8 % 16 * 2 ^ 4 ≡ q / 2 ^ 8 % 256 * 16 % 256 = omega arith in
    byte_of_block (suc b) (v / 2 ^ 4) (omega arith) ∙ ap (λ (n : ℕ). n % 256) moved ∙ bits ∙ sym (apart (q % 256 / 16) (q / 2 ^ 8 % 16) (omega arith)) ∙ ap (bit_xor (q % 256 / 16)) up
    ∙ ap (λ (n : ℕ). bit_xor (n / 16) (q / 2 ^ 8 % 256 * 16 % 256)) (sym here) ∙ ap (λ (n : ℕ). bit_xor (get_or (bytes_high_first 16 v) (suc b) 0 / 16) (n * 16 % 256)) (sym before)

-- the bytes of four bits times x^4
folded : (m : ℕ) → m < 16 → bytes_high_first 16 (block_times_power m 4) ≡ get_or folded_first m 0 ∷ get_or folded_second m 0 ∷ replicate 14 0
unfolding block_times_x
folded = below_sixteen (λ m. bytes_high_first 16 (block_times_power m 4) ≡ get_or folded_first m 0 ∷ get_or folded_second m 0 ∷ replicate 14 0)
    refl refl refl refl refl refl refl refl refl refl refl refl refl refl refl refl

last_four : (v : ℕ) → v % 2 ^ 4 ≡ get_or (bytes_high_first 16 v) 15 0 % 16
last_four v =
    let e : v % 2 ^ 4 ≡ v / 2 ^ (8 * (15 - 15)) % 256 % 16 = omega arith in
    e ∙ ap (λ (n : ℕ). n % 16) (sym (byte_of_block 15 v (omega arith)))

folded_at : (v b : ℕ) → get_or (bytes_high_first 16 (block_times_power (v % 2 ^ 4) 4)) b 0 ≡ get_or (get_or folded_first (get_or (bytes_high_first 16 v) 15 0 % 16) 0 ∷ get_or folded_second (get_or (bytes_high_first 16 v) 15 0 % 16) 0 ∷ replicate 14 0) b 0
folded_at v b =
    let m = v % 2 ^ 4 in
    ap (λ (xs : List ℕ). get_or xs b 0) (folded m (omega arith)) ∙ ap (λ (k : ℕ). get_or (get_or folded_first k 0 ∷ get_or folded_second k 0 ∷ replicate 14 0) b 0) (last_four v)

byte_times_four : (v b : ℕ) → b < 16 → get_or (bytes_high_first 16 (block_times_power v 4)) b 0
    ≡ bit_xor (get_or (bytes_high_first 16 (v / 2 ^ 4)) b 0) (get_or (get_or folded_first (get_or (bytes_high_first 16 v) 15 0 % 16) 0 ∷ get_or folded_second (get_or (bytes_high_first 16 v) 15 0 % 16) 0 ∷ replicate 14 0) b 0)
byte_times_four v b lt =
    ap (λ (n : ℕ). get_or (bytes_high_first 16 n) b 0) (times_four v) ∙ (byte_linear b lt).keeps (v / 2 ^ 4) (block_times_power (v % 2 ^ 4) 4)
    ∙ ap (bit_xor (get_or (bytes_high_first 16 (v / 2 ^ 4)) b 0)) (folded_at v b)

-- x is byte b of a block, by what it was computed of: the byte, the one before it, and the last one
pub first_byte_times : (v x x0 x15 : ℕ) → v < 2 ^ 128 → x0 ≡ get_or (bytes_high_first 16 v) 0 0 → x15 ≡ get_or (bytes_high_first 16 v) 15 0
    → x ≡ bit_xor (x0 / 16) (get_or folded_first (x15 % 16) 0) → x ≡ get_or (bytes_high_first 16 (block_times_power v 4)) 0 0
first_byte_times v x x0 x15 lt e0 e15 is =
    is ∙ ap (λ (n : ℕ). bit_xor (n / 16) (get_or folded_first (x15 % 16) 0)) e0 ∙ ap (λ (n : ℕ). bit_xor (get_or (bytes_high_first 16 v) 0 0 / 16) (get_or folded_first (n % 16) 0)) e15
    ∙ ap (λ (n : ℕ). bit_xor n (get_or folded_first (get_or (bytes_high_first 16 v) 15 0 % 16) 0)) (sym (first_lower v lt)) ∙ sym (byte_times_four v 0 (omega arith))

pub second_byte_times : (v x x0 x1 x15 : ℕ) → x0 ≡ get_or (bytes_high_first 16 v) 0 0 → x1 ≡ get_or (bytes_high_first 16 v) 1 0 → x15 ≡ get_or (bytes_high_first 16 v) 15 0
    → x ≡ bit_xor (bit_xor (x1 / 16) (x0 * 16 % 256)) (get_or folded_second (x15 % 16) 0) → x ≡ get_or (bytes_high_first 16 (block_times_power v 4)) 1 0
second_byte_times v x x0 x1 x15 e0 e1 e15 is =
    is ∙ ap (λ (n : ℕ). bit_xor (bit_xor (x1 / 16) (n * 16 % 256)) (get_or folded_second (x15 % 16) 0)) e0
    ∙ ap (λ (n : ℕ). bit_xor (bit_xor (n / 16) (get_or (bytes_high_first 16 v) 0 0 * 16 % 256)) (get_or folded_second (x15 % 16) 0)) e1
    ∙ ap (λ (n : ℕ). bit_xor (bit_xor (get_or (bytes_high_first 16 v) 1 0 / 16) (get_or (bytes_high_first 16 v) 0 0 * 16 % 256)) (get_or folded_second (n % 16) 0)) e15
    ∙ ap (λ (n : ℕ). bit_xor n (get_or folded_second (get_or (bytes_high_first 16 v) 15 0 % 16) 0)) (sym (next_lower v 0 (omega arith))) ∙ sym (byte_times_four v 1 (omega arith))

pub later_byte_times : (v b x before here : ℕ) → b < 14 → before ≡ get_or (bytes_high_first 16 v) (suc b) 0 → here ≡ get_or (bytes_high_first 16 v) (suc (suc b)) 0
    → x ≡ bit_xor (here / 16) (before * 16 % 256) → x ≡ get_or (bytes_high_first 16 (block_times_power v 4)) (suc (suc b)) 0
later_byte_times v b x before here lt e0 e1 is =
    let n = get_or (bytes_high_first 16 (v / 2 ^ 4)) (suc (suc b)) 0 in
    is ∙ ap (λ (m : ℕ). bit_xor (here / 16) (m * 16 % 256)) e0 ∙ ap (λ (m : ℕ). bit_xor (m / 16) (get_or (bytes_high_first 16 v) (suc b) 0 * 16 % 256)) e1
    ∙ sym (next_lower v (suc b) (omega arith)) ∙ sym (xor_zero_r n) ∙ ap (bit_xor n) (sym (get_or-replicate 14 b 0 0 lt)) ∙ sym (byte_times_four v (suc (suc b)) (omega arith))

-- the multiples for the next four bits
pub four_next : (y i n : ℕ) → four_bits (block_times_power y) (i + 1) n ≡ block_times_power (four_bits (block_times_power y) i n) 4
four_next y i n =
    four_kept (λ v. block_times_power v 4) (block_times_power y) (block_times_power y) (i + 1) i n (power_linear 4) (λ j few.
    let e : 4 * (i + 1) + j ≡ suc (suc (suc (suc (4 * i + j)))) = omega arith in
    ap (block_times_power y) e)
