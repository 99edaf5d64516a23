-- Vectors of n bytes, bit by bit.
use Rattle.std.proofs.Common.{◌≡◌, ℕ, zero, suc, ◌+◌, ◌-◌, ◌*◌, ◌/◌, ◌%◌, ◌^◌, ◌<◌, List, [], ◌∷◌, ◌++◌, cond, ltb, length, get_or, map, replicate, bit_xor, bit_and, refl, ap, ◌∙◌, arith, w8, Fits}
use Rattle.std.specs.Int.{bit_at}
use Rattle.std.specs.List.{range_with_len}
use Rattle.std.specs.Simd.Lanes.{zip2, Each1}
use Rattle.std.proofs.lemmas.Nat.{xor_shr, xor_mod, and_shr, and_mod, and_le_r, shr-shr, xor_comm}
use Rattle.std.proofs.lemmas.Simd.{get_or-zip2, get_or-replicate}
use Rattle.std.proofs.lemmas.List.{get_or_append_left, length-replicate}
use Rattle.std.proofs.lemmas.List.FromFn.{get_or-map-range_with_len}
use Rattle.std.specs.Int.Bits.{xor_zero_r}
use Rattle.st_aes.specs.Planes.{bit}

pub bit_at_sum : (a b i : ℕ) → bit_at (bit_xor a b) i ≡ bit_xor (bit_at a i) (bit_at b i)
bit_at_sum a b i = ap (λ (n : ℕ). n % 2) (xor_shr a b i) ∙ xor_mod (a / 2 ^ i) (b / 2 ^ i) 1

pub bit_at_product : (a b i : ℕ) → bit_at (bit_and a b) i ≡ bit_and (bit_at a i) (bit_at b i)
bit_at_product a b i = ap (λ (n : ℕ). n % 2) (and_shr a b i) ∙ and_mod (a / 2 ^ i) (b / 2 ^ i) 1

pub bit_small : (v : List ℕ) (l j : ℕ) → bit v l j < 2
unfolding bit
bit_small v l j = omega arith

-- ---- lane by lane

pub sum_lanes : (n : ℕ) (a b : List ℕ) (l j : ℕ) → length a ≡ n → length b ≡ n → l < n → bit (zip2 bit_xor a b) l j ≡ bit_xor (bit a l j) (bit b l j)
unfolding bit
sum_lanes n a b l j p q lt = ap (λ (x : ℕ). bit_at x j) (get_or-zip2 bit_xor a b l 0 0 0 (omega arith) (omega arith)) ∙ bit_at_sum (get_or a l 0) (get_or b l 0) j

pub product_lanes : (n : ℕ) (a b : List ℕ) (l j : ℕ) → length a ≡ n → length b ≡ n → l < n → bit (zip2 bit_and a b) l j ≡ bit_and (bit a l j) (bit b l j)
unfolding bit
product_lanes n a b l j p q lt = ap (λ (x : ℕ). bit_at x j) (get_or-zip2 bit_and a b l 0 0 0 (omega arith) (omega arith)) ∙ bit_at_product (get_or a l 0) (get_or b l 0) j

pub splat_bit : (n m l j : ℕ) → l < n → bit (replicate n m) l j ≡ bit_at m j
unfolding bit
splat_bit n m l j lt = ap (λ (x : ℕ). bit_at x j) (get_or-replicate n l m 0 lt)

splat_long : (n m : ℕ) → length (replicate n m) ≡ n
splat_long n m = length-replicate n m

pub masked_lanes : (n : ℕ) (a : List ℕ) (m l j : ℕ) → length a ≡ n → l < n → bit (zip2 bit_and a (replicate n m)) l j ≡ bit_and (bit a l j) (bit_at m j)
masked_lanes n a m l j p lt = product_lanes n a (replicate n m) l j p (splat_long n m) lt ∙ ap (bit_and (bit a l j)) (splat_bit n m l j lt)

-- what holds of 0 to 7
pub below_eight : (P : ℕ → Type 0) → P 0 → P 1 → P 2 → P 3 → P 4 → P 5 → P 6 → P 7 → (j : ℕ) → j < 8 → P j
below_eight P p0 p1 p2 p3 p4 p5 p6 p7 zero h = p0
below_eight P p0 p1 p2 p3 p4 p5 p6 p7 (suc zero) h = p1
below_eight P p0 p1 p2 p3 p4 p5 p6 p7 (suc (suc zero)) h = p2
below_eight P p0 p1 p2 p3 p4 p5 p6 p7 (suc (suc (suc zero))) h = p3
below_eight P p0 p1 p2 p3 p4 p5 p6 p7 (suc (suc (suc (suc zero)))) h = p4
below_eight P p0 p1 p2 p3 p4 p5 p6 p7 (suc (suc (suc (suc (suc zero))))) h = p5
below_eight P p0 p1 p2 p3 p4 p5 p6 p7 (suc (suc (suc (suc (suc (suc zero)))))) h = p6
below_eight P p0 p1 p2 p3 p4 p5 p6 p7 (suc (suc (suc (suc (suc (suc (suc zero))))))) h = p7
below_eight P p0 p1 p2 p3 p4 p5 p6 p7 (suc (suc (suc (suc (suc (suc (suc (suc n)))))))) h = absurd (omega arith)

ones_bit : (j : ℕ) → j < 8 → bit_at 255 j ≡ 1
ones_bit = below_eight (λ j. bit_at 255 j ≡ 1) refl refl refl refl refl refl refl refl

pub not_lanes : (n : ℕ) (a : List ℕ) (l j : ℕ) → length a ≡ n → l < n → j < 8 → bit (zip2 bit_xor a (replicate n 255)) l j ≡ bit_xor (bit a l j) 1
not_lanes n a l j p lt few = sum_lanes n a (replicate n 255) l j p (splat_long n 255) lt ∙ ap (bit_xor (bit a l j)) (splat_bit n 255 l j lt ∙ ones_bit j few)

-- a shift of each byte to lower places
pub right_lanes : (n : ℕ) (a : List ℕ) (k l j : ℕ) → length a ≡ n → l < n → bit (zip2 (λ x m. x / 2 ^ m) a (replicate n k)) l j ≡ bit a l (k + j)
unfolding bit
right_lanes n a k l j p lt =
    ap (λ (x : ℕ). bit_at x j) (get_or-zip2 (λ x m. x / 2 ^ m) a (replicate n k) l 0 0 0 (omega arith) (omega (arith, splat_long n k)) ∙ ap (λ (x : ℕ). get_or a l 0 / 2 ^ x) (get_or-replicate n l k 0 lt))
    ∙ ap (λ (x : ℕ). x % 2) (shr-shr (get_or a l 0) k j)

left_bit_1 : (x j : ℕ) → j < 8 → bit_at (x * 2 ^ 1 % 2 ^ 8) j ≡ cond (ltb j 1) 0 (bit_at x (j - 1))
left_bit_1 x = below_eight (λ j. bit_at (x * 2 ^ 1 % 2 ^ 8) j ≡ cond (ltb j 1) 0 (bit_at x (j - 1))) (omega arith) (omega arith) (omega arith) (omega arith) (omega arith) (omega arith) (omega arith) (omega arith)

left_bit_2 : (x j : ℕ) → j < 8 → bit_at (x * 2 ^ 2 % 2 ^ 8) j ≡ cond (ltb j 2) 0 (bit_at x (j - 2))
left_bit_2 x = below_eight (λ j. bit_at (x * 2 ^ 2 % 2 ^ 8) j ≡ cond (ltb j 2) 0 (bit_at x (j - 2))) (omega arith) (omega arith) (omega arith) (omega arith) (omega arith) (omega arith) (omega arith) (omega arith)

left_bit_4 : (x j : ℕ) → j < 8 → bit_at (x * 2 ^ 4 % 2 ^ 8) j ≡ cond (ltb j 4) 0 (bit_at x (j - 4))
left_bit_4 x = below_eight (λ j. bit_at (x * 2 ^ 4 % 2 ^ 8) j ≡ cond (ltb j 4) 0 (bit_at x (j - 4))) (omega arith) (omega arith) (omega arith) (omega arith) (omega arith) (omega arith) (omega arith) (omega arith)

left_lanes : (n : ℕ) (a : List ℕ) (k l j : ℕ) → length a ≡ n → l < n → bit_at (get_or a l 0 * 2 ^ k % 2 ^ 8) j ≡ cond (ltb j k) 0 (bit a l (j - k))
    → bit (zip2 (λ x m. x * 2 ^ m % 2 ^ 8) a (replicate n k)) l j ≡ cond (ltb j k) 0 (bit a l (j - k))
unfolding bit
left_lanes n a k l j p lt is =
    ap (λ (x : ℕ). bit_at x j) (get_or-zip2 (λ x m. x * 2 ^ m % 2 ^ 8) a (replicate n k) l 0 0 0 (omega arith) (omega (arith, splat_long n k)) ∙ ap (λ (x : ℕ). get_or a l 0 * 2 ^ x % 2 ^ 8) (get_or-replicate n l k 0 lt)) ∙ is

pub left_lanes_1 : (n : ℕ) (a : List ℕ) (l j : ℕ) → length a ≡ n → l < n → j < 8 → bit (zip2 (λ x m. x * 2 ^ m % 2 ^ 8) a (replicate n 1)) l j ≡ cond (ltb j 1) 0 (bit a l (j - 1))
unfolding bit
left_lanes_1 n a l j p lt few = left_lanes n a 1 l j p lt (left_bit_1 (get_or a l 0) j few)

pub left_lanes_2 : (n : ℕ) (a : List ℕ) (l j : ℕ) → length a ≡ n → l < n → j < 8 → bit (zip2 (λ x m. x * 2 ^ m % 2 ^ 8) a (replicate n 2)) l j ≡ cond (ltb j 2) 0 (bit a l (j - 2))
unfolding bit
left_lanes_2 n a l j p lt few = left_lanes n a 2 l j p lt (left_bit_2 (get_or a l 0) j few)

pub left_lanes_4 : (n : ℕ) (a : List ℕ) (l j : ℕ) → length a ≡ n → l < n → j < 8 → bit (zip2 (λ x m. x * 2 ^ m % 2 ^ 8) a (replicate n 4)) l j ≡ cond (ltb j 4) 0 (bit a l (j - 4))
unfolding bit
left_lanes_4 n a l j p lt few = left_lanes n a 4 l j p lt (left_bit_4 (get_or a l 0) j few)

-- bytes moved within a vector
pub moved_lanes : (n : ℕ) (a : List ℕ) (f : ℕ → ℕ) (l j : ℕ) → length a ≡ n → l < n → f l < n → bit (map (λ i. get_or (a ++ a) (f i) 0) (range_with_len 0 n)) l j ≡ bit a (f l) j
unfolding bit
moved_lanes n a f l j long lt small =
    ap (λ (x : ℕ). bit_at x j) (get_or-map-range_with_len (λ i. get_or (a ++ a) (f i) 0) 0 n l l 0 lt (omega arith) ∙ get_or_append_left a a 0 (f l) (omega arith))

-- ---- two bits changed

pub exchange : (x y : ℕ) → x < 2 → y < 2 → bit_xor x (bit_and (bit_xor x y) 1) ≡ y
exchange zero zero p q = refl
exchange zero (suc zero) p q = refl
exchange (suc zero) zero p q = refl
exchange (suc zero) (suc zero) p q = refl
exchange zero (suc (suc y)) p q = absurd (omega arith)
exchange (suc zero) (suc (suc y)) p q = absurd (omega arith)
exchange (suc (suc x)) y p q = absurd (omega arith)

pub kept : (r x back : ℕ) → r ≡ bit_xor x back → back ≡ 0 → r ≡ x
kept r x back is clear = is ∙ ap (bit_xor x) clear ∙ xor_zero_r x

pub none : (t s : ℕ) → t ≡ bit_and s 0 → t ≡ 0
none t s is = omega (arith, is, and_le_r s 0)

pub moved_in : (r x y back t s m : ℕ) → r ≡ bit_xor x back → back ≡ t → t ≡ bit_and s 1 → s ≡ bit_xor m y → m ≡ x → x < 2 → y < 2 → r ≡ y
moved_in r x y back t s m e0 e1 e2 e3 e4 p q =
    e0 ∙ ap (bit_xor x) (e1 ∙ e2 ∙ ap (λ (n : ℕ). bit_and n 1) (e3 ∙ ap (λ (n : ℕ). bit_xor n y) e4)) ∙ exchange x y p q

pub moved_up : (r x y t s m : ℕ) → r ≡ bit_xor y t → t ≡ bit_and s 1 → s ≡ bit_xor m y → m ≡ x → x < 2 → y < 2 → r ≡ x
moved_up r x y t s m e0 e2 e3 e4 p q =
    e0 ∙ ap (bit_xor y) (e2 ∙ ap (λ (n : ℕ). bit_and n 1) (e3 ∙ ap (λ (n : ℕ). bit_xor n y) e4 ∙ xor_comm x y)) ∙ exchange y x q p

-- ---- lanes that are bytes

pub lane_small : (v : List ℕ) (l : ℕ) → Each1 (Fits w8) v → get_or v l 0 < 256
lane_small [] l h = omega arith
lane_small (x ∷ xs) zero h = h.0.fits
lane_small (x ∷ xs) (suc l) h = lane_small xs l h.1
