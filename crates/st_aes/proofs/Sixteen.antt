-- Products of sixteen blocks at once.
use Rattle.std.proofs.Common.{◌≡◌, ℕ, zero, suc, ◌+◌, ◌-◌, ◌*◌, ◌/◌, ◌%◌, ◌^◌, ◌<◌, Bool, true, false, cond, eqb, List, [], ◌∷◌, length, get_or, replicate, map, fold, bit_xor, refl, sym, ap, subst, ◌∙◌, arith, inl, inr}
use Rattle.std.specs.Int.{w128, to_be_bytes, bit_at, byte_at, bytes_high_first}
use Rattle.std.specs.Int.Bits.{xor_zero_r, xor_assoc}
use Rattle.std.proofs.lemmas.Bool.{cases_lt}
use Rattle.std.proofs.lemmas.Nat.{xor_lt}
use Rattle.std.proofs.lemmas.List.{get_or_past}
use Rattle.std.proofs.lemmas.List.FromFn.{map-range_with_len_more}
use Rattle.std.proofs.lemmas.List.Sums.{fold-append}
use Rattle.std.specs.List.{range_with_len}
use Rattle.st_aes.proofs.Tables.{at_list_of}
use Rattle.st_aes.proofs.Rounds.{list_same}
use Rattle.st_aes.proofs.Linear.{power_small, sum_small, product_small}
use Rattle.st_aes.proofs.Bits.{below_eight}
use Rattle.st_aes.proofs.Lookups.{below_sixteen}
use Rattle.st_aes.proofs.Multiples.{byte_is, four_more, four_at, high_four, low_four}
use Rattle.st_aes.proofs.Numbers.{Bytes, number_from, summed, number_of_sum, number_of_bytes, block_number_is, bytes_of_number}
use Rattle.st_aes.specs.ByteField.{xor_sum}
use Rattle.st_aes.specs.BlockField.{block_times_power, block_term, product, repeated, hash_from, four_bits}
use Rattle.st_aes.specs.Gcm.{block_number}
use Rattle.st_aes.specs.Planes.{plane}
use Rattle.st_aes.specs.Rows.{cell, block_in, block_behind, added_byte, HasTables}

-- each vector has bytes
abbrev pub AllBytes : List (List ℕ) → Type 0
AllBytes rows = (k l : ℕ) → k < 8 → get_or (plane rows k) l 0 < 256

-- to each block of start, what the first m bytes of the same block of rows add to its product with y is added
pub Summed : List (List ℕ) → List (List ℕ) → List (List ℕ) → ℕ → ℕ → Type 0
Summed start rows acc y m = (j : ℕ) → j < 16 → number_from 0 (block_in acc j) ≡ bit_xor (number_from 0 (block_in start j)) (xor_sum (block_term (number_from 0 (block_in rows j)) y) (8 * m))

pub block_at : (rows : List (List ℕ)) (j b : ℕ) → b < 16 → get_or (block_in rows j) b 0 ≡ cell rows (b % 8) (16 * (b / 8) + j)
unfolding block_in
block_at rows j b lt = at_list_of 16 (λ b. cell rows (b % 8) (16 * (b / 8) + j)) (block_in rows j) b refl lt

pub block_long : (rows : List (List ℕ)) (j : ℕ) → length (block_in rows j) ≡ 16
unfolding block_in
block_long rows j = refl

pub block_bytes : (rows : List (List ℕ)) (j : ℕ) → AllBytes rows → Bytes (block_in rows j)
unfolding Bytes
block_bytes rows j h i = elim (cases_lt i 16) [
  | inl lt ↦ subst (λ (n : ℕ). n < 256) (sym (block_at rows j i lt)) (h (i % 8) (16 * (i / 8) + j) (omega arith))
  | inr past ↦ let none = get_or_past (block_in rows j) i 0 (omega (arith, block_long rows j)) in omega (arith, none)
]

byte_at_small : (k n : ℕ) → byte_at k n < 256
byte_at_small k n = let e = byte_is k n in omega (arith, e)

high_bytes : (k n : ℕ) → Bytes (bytes_high_first k n)
unfolding Bytes
high_bytes zero n i = omega arith
high_bytes (suc k) n zero = byte_at_small k n
high_bytes (suc k) n (suc i) = high_bytes k n i

summed_bytes : (xs ys : List ℕ) → Bytes xs → Bytes ys → Bytes (summed xs ys)
unfolding Bytes
summed_bytes [] ys p q i = omega arith
summed_bytes (x ∷ xs) [] p q i = omega arith
summed_bytes (x ∷ xs) (y ∷ ys) p q zero = xor_lt 8 x y (p 0) (q 0)
summed_bytes (x ∷ xs) (y ∷ ys) p q (suc i) = summed_bytes xs ys (λ k. p (suc k)) (λ k. q (suc k)) i

summed_length : (xs ys : List ℕ) → length xs ≡ length ys → length (summed xs ys) ≡ length xs
summed_length [] ys e = refl
summed_length (x ∷ xs) [] e = absurd (omega arith)
summed_length (x ∷ xs) (y ∷ ys) e = ap suc (summed_length xs ys (omega arith))

chosen_small : (b : Bool) (v : ℕ) → v < 2 ^ 128 → cond b v 0 < 2 ^ 128
chosen_small true v lt = lt
chosen_small false v lt = omega arith

pub four_small : (y i n : ℕ) → y < 2 ^ 128 → four_bits (block_times_power y) i n < 2 ^ 128
four_small y i n lt =
    sum_small 128 (λ j. cond (eqb (bit_at n (3 - j)) 1) (block_times_power y (4 * i + j)) 0) 4 (λ j few. chosen_small (eqb (bit_at n (3 - j)) 1) (block_times_power y (4 * i + j)) (power_small y (4 * i + j) lt))

number_back : (n : ℕ) → n < 2 ^ 128 → number_from 0 (to_be_bytes w128 n) ≡ n
number_back n lt = number_of_bytes 0 16 n ∙ (omega arith)

-- the number of a block, to which the bytes of two numbers are added
added_numbers : (xs : List ℕ) (m n : ℕ) → length xs ≡ 16 → Bytes xs → m < 2 ^ 128 → n < 2 ^ 128 → number_from 0 (summed (summed xs (to_be_bytes w128 m)) (to_be_bytes w128 n)) ≡ bit_xor (bit_xor (number_from 0 xs) m) n
added_numbers xs m n long h lm ln =
    let first = number_of_sum 0 0 xs (to_be_bytes w128 m) long h (high_bytes 16 m) in
    number_of_sum 0 0 (summed xs (to_be_bytes w128 m)) (to_be_bytes w128 n) (summed_length xs (to_be_bytes w128 m) long ∙ long) (summed_bytes xs (to_be_bytes w128 m) h (high_bytes 16 m)) (high_bytes 16 n)
    ∙ ap (λ (v : ℕ). bit_xor v (number_from 0 (to_be_bytes w128 n))) first ∙ ap (λ (v : ℕ). bit_xor (bit_xor (number_from 0 xs) v) (number_from 0 (to_be_bytes w128 n))) (number_back m lm)
    ∙ ap (bit_xor (bit_xor (number_from 0 xs) m)) (number_back n ln)

added_block : (t : List ℕ) (acc next : List (List ℕ)) (v : List ℕ) (y m j x : ℕ) → HasTables t y → m < 16 → j < 16 → x < 256 → ((s : ℕ) → s < 2 → get_or v (16 * s + j) 0 ≡ x)
    → ((k l : ℕ) → k < 8 → l < 32 → get_or (plane next k) l 0 ≡ added_byte t (get_or v l 0) m k l (get_or (plane acc k) l 0))
    → block_in next j ≡ summed (summed (block_in acc j) (to_be_bytes w128 (four_bits (block_times_power y) (2 * m) (x / 16)))) (to_be_bytes w128 (four_bits (block_times_power y) (2 * m + 1) (x % 16)))
unfolding block_in
added_block t acc next v y m j x h few lt byte lanes step =
    let one = to_be_bytes w128 (four_bits (block_times_power y) (2 * m) (x / 16)) in
    let two = to_be_bytes w128 (four_bits (block_times_power y) (2 * m + 1) (x % 16)) in
    list_same 16 (λ b. cell next (b % 8) (16 * (b / 8) + j)) (λ b. bit_xor (bit_xor (cell acc (b % 8) (16 * (b / 8) + j)) (get_or one b 0)) (get_or two b 0)) (λ b low.
    let l = 16 * (b / 8) + j in
    let k = b % 8 in
    let e = lanes (b / 8) (omega arith) in
    let high_place : 512 * m + 32 * k + 16 * (l / 16) + get_or v l 0 / 16 ≡ 256 * (2 * m) + 32 * (b % 8) + 16 * (b / 8) + x / 16 = omega (arith, e) in
    let low_place : 512 * m + 256 + 32 * k + 16 * (l / 16) + get_or v l 0 % 16 ≡ 256 * (2 * m + 1) + 32 * (b % 8) + 16 * (b / 8) + x % 16 = omega (arith, e) in
    step k l (omega arith) (omega arith)
    ∙ ap (λ (n : ℕ). bit_xor (bit_xor (cell acc k l) n) (get_or t (512 * m + 256 + 32 * k + 16 * (l / 16) + get_or v l 0 % 16) 0)) (ap (λ (i : ℕ). get_or t i 0) high_place ∙ h (2 * m) b (x / 16) (omega arith) low (omega arith))
    ∙ ap (bit_xor (bit_xor (cell acc k l) (get_or one b 0))) (ap (λ (i : ℕ). get_or t i 0) low_place ∙ h (2 * m + 1) b (x % 16) (omega arith) low (omega arith)))

pub summed_none : (start rows : List (List ℕ)) (y : ℕ) → Summed start rows start y 0
unfolding Summed
summed_none start rows y j lt = sym (xor_zero_r (number_from 0 (block_in start j)))

pub summed_more : (t : List ℕ) (start rows acc next : List (List ℕ)) (v : List ℕ) (y m : ℕ) → y < 2 ^ 128 → m < 16 → HasTables t y → AllBytes rows → AllBytes acc
    → ((j s : ℕ) → j < 16 → s < 2 → get_or v (16 * s + j) 0 ≡ get_or (block_in rows j) m 0)
    → ((k l : ℕ) → k < 8 → l < 32 → get_or (plane next k) l 0 ≡ added_byte t (get_or v l 0) m k l (get_or (plane acc k) l 0))
    → Summed start rows acc y m → Summed start rows next y (m + 1)
unfolding Summed Bytes
summed_more t start rows acc next v y m small few h rows_bytes acc_bytes lanes step before j lt =
    let block = block_in rows j in
    let x = get_or block m 0 in
    let number = number_from 0 block in
    let term = block_term number y in
    let p = block_times_power y in
    let s = number_from 0 (block_in start j) in
    let bytes = block_bytes rows j rows_bytes in
    let byte : x < 256 = bytes m in
    let digits : get_or (bytes_high_first 16 number) m 0 ≡ x = ap (λ (k : ℕ). get_or (bytes_high_first k number) m 0) (sym (block_long rows j)) ∙ ap (λ (b : List ℕ). get_or b m 0) (bytes_of_number 0 block bytes) in
    let high : x / 16 ≡ four_at number (2 * m) = ap (λ (n : ℕ). n / 16) (sym digits) ∙ high_four number m few in
    let low : x % 16 ≡ four_at number (2 * m + 1) = ap (λ (n : ℕ). n % 16) (sym digits) ∙ low_four number m few in
    let one = four_bits p (2 * m) (x / 16) in
    let two = four_bits p (2 * m + 1) (x % 16) in
    let place : 8 * m ≡ 4 * (2 * m) = omega arith in
    let middle : 4 * (2 * m) + 4 ≡ 4 * (2 * m + 1) = omega arith in
    let end : 4 * (2 * m + 1) + 4 ≡ 8 * (m + 1) = omega arith in
    ap (number_from 0) (added_block t acc next v y m j x h few lt byte (λ i two. lanes j i lt two) step)
    ∙ added_numbers (block_in acc j) one two (block_long acc j) (block_bytes acc j acc_bytes) (four_small y (2 * m) (x / 16) small) (four_small y (2 * m + 1) (x % 16) small)
    ∙ ap (λ (n : ℕ). bit_xor (bit_xor n one) two) (before j lt ∙ ap (λ (k : ℕ). bit_xor s (xor_sum term k)) place)
    ∙ ap (λ (n : ℕ). bit_xor n two) (xor_assoc s (xor_sum term (4 * (2 * m))) one ∙ ap (bit_xor s) (ap (λ (n : ℕ). bit_xor (xor_sum term (4 * (2 * m))) (four_bits p (2 * m) n)) high ∙ four_more number y (2 * m) (omega arith) ∙ ap (xor_sum term) middle))
    ∙ xor_assoc s (xor_sum term (4 * (2 * m + 1))) two
    ∙ ap (bit_xor s) (ap (λ (n : ℕ). bit_xor (xor_sum term (4 * (2 * m + 1))) (four_bits p (2 * m + 1) n)) low ∙ four_more number y (2 * m + 1) (omega arith) ∙ ap (xor_sum term) end)

pub summed_moved : (start rows acc : List (List ℕ)) (y m n : ℕ) → m ≡ n → Summed start rows acc y m → Summed start rows acc y n
summed_moved start rows acc y m n e h = subst (Summed start rows acc y) e h

pub summed_all : (start rows acc : List (List ℕ)) (y j : ℕ) → j < 16 → Summed start rows acc y 16
    → block_number (block_in acc j) ≡ bit_xor (block_number (block_in start j)) (product (block_number (block_in rows j)) y)
unfolding Summed product
summed_all start rows acc y j lt h =
    let e = block_number_is (block_in rows j) (block_long rows j) in
    block_number_is (block_in acc j) (block_long acc j) ∙ h j lt ∙ ap (λ (n : ℕ). bit_xor n (xor_sum (block_term (number_from 0 (block_in rows j)) y) 128)) (sym (block_number_is (block_in start j) (block_long start j)))
    ∙ ap (λ (n : ℕ). bit_xor (block_number (block_in start j)) (xor_sum (block_term n y) 128)) (sym e)

-- ---- no bytes at all

none_at : (k : ℕ) → k < 8 → plane (replicate 8 (replicate 32 0)) k ≡ replicate 32 0
none_at = below_eight (λ k. plane (replicate 8 (replicate 32 0)) k ≡ replicate 32 0) refl refl refl refl refl refl refl refl

zeros_at : (n l z : ℕ) → z ≡ 0 → get_or (replicate n z) l 0 ≡ z
zeros_at zero l z e = sym e
zeros_at (suc n) zero z e = refl
zeros_at (suc n) (suc l) z e = zeros_at n l z e

pub no_bytes : (k l : ℕ) → k < 8 → get_or (plane (replicate 8 (replicate 32 0)) k) l 0 < 256
no_bytes k l lt =
    let e : get_or (plane (replicate 8 (replicate 32 0)) k) l 0 ≡ 0 = ap (λ (v : List ℕ). get_or v l 0) (none_at k lt) ∙ zeros_at 32 l 0 refl in
    omega (arith, e)

pub no_blocks : (j : ℕ) → j < 16 → block_number (block_in (replicate 8 (replicate 32 0)) j) ≡ 0
unfolding block_in
no_blocks = below_sixteen (λ j. block_number (block_in (replicate 8 (replicate 32 0)) j) ≡ 0) refl refl refl refl refl refl refl refl refl refl refl refl refl refl refl refl

pub repeated_small : (h n x : ℕ) → h < 2 ^ 128 → x < 2 ^ 128 → repeated h n x < 2 ^ 128
unfolding repeated
repeated_small h zero x lh lx = lx
repeated_small h (suc n) x lh lx = product_small (repeated h n x) h lh

-- block j out of the bytes of the rows
pub block_is : (rows : List (List ℕ)) (bytes : List ℕ) (j : ℕ) → j < 16 → ((i : ℕ) → i < 256 → get_or bytes (0 + i) 0 ≡ get_or (plane rows (i / 32)) (i % 32) 0) → block_behind bytes j ≡ block_in rows j
unfolding block_in block_behind
block_is rows bytes j lt written =
    list_same 16 (λ b. get_or bytes (32 * (b % 8) + (16 * (b / 8) + j)) 0) (λ b. cell rows (b % 8) (16 * (b / 8) + j)) (λ b few.
    let i = 32 * (b % 8) + (16 * (b / 8) + j) in
    let start : i ≡ 0 + i = omega arith in
    let row : i / 32 ≡ b % 8 = omega arith in
    let column : i % 32 ≡ 16 * (b / 8) + j = omega arith in
    ap (λ (k : ℕ). get_or bytes k 0) start ∙ written i (omega arith) ∙ ap (λ (r : ℕ). get_or (plane rows r) (i % 32) 0) row ∙ ap (λ (k : ℕ). get_or (plane rows (b % 8)) k 0) column)

-- ---- the hash, block by block

pub fold_is : (h : ℕ) (f : ℕ → List ℕ) (n : ℕ) → fold (λ y block. product (bit_xor y (block_number block)) h) 0 (map f (range_with_len 0 n)) ≡ hash_from h 0 (λ b. block_number (f b)) n
unfolding hash_from
fold_is h f zero = refl
fold_is h f (suc n) =
    let step = λ (y : ℕ) (block : List ℕ). product (bit_xor y (block_number block)) h in
    let e : suc n ≡ n + 1 = omega arith in
    ap (λ (k : ℕ). fold step 0 (map f (range_with_len 0 k))) e ∙ ap (fold step 0) (map-range_with_len_more f 0 n n (omega arith)) ∙ fold-append step 0 (map f (range_with_len 0 n)) (f n ∷ [])
    ∙ ap (λ (y : ℕ). product (bit_xor y (block_number (f n))) h) (fold_is h f n)
