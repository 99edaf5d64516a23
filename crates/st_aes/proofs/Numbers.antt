-- Blocks as numbers, byte by byte.
use Rattle.std.proofs.Common.{◌≡◌, ℕ, zero, suc, ◌+◌, ◌*◌, ◌/◌, ◌%◌, ◌^◌, ◌<◌, List, [], ◌∷◌, length, get_or, bit_xor, refl, sym, ap, subst, ◌∙◌, arith}
use Rattle.std.specs.Int.{byte_at, bytes_high_first}
use Rattle.std.proofs.lemmas.Nat.{xor_block, mod-pow-add, mul-add-lt, shr_high}
use native.Mathlib.Nat.{pow-suc, add-mul, mul_assoc, mul_comm, add_assoc}
use Rattle.st_aes.proofs.Tables.{spelled_out}
use Rattle.st_aes.proofs.Multiples.{byte_is, bytes_power}
use Rattle.st_aes.specs.Gcm.{block_number}

-- a, followed by the bytes xs
abbrev pub number_from : ℕ → List ℕ → ℕ
number_from a [] = a
number_from a (x ∷ xs) = number_from (a * 256 + x) xs

unfoldable pub Bytes : List ℕ → Type 0
Bytes xs = (i : ℕ) → get_or xs i 0 < 256

rest_bytes : (x : ℕ) (xs : List ℕ) → Bytes (x ∷ xs) → Bytes xs
unfolding Bytes
rest_bytes x xs h i = h (suc i)

first_byte : (x : ℕ) (xs : List ℕ) → Bytes (x ∷ xs) → x < 256
unfolding Bytes
first_byte x xs h = h 0

-- the sums of bytes are the bytes of the sum
abbrev pub summed : List ℕ → List ℕ → List ℕ
summed [] ys = []
summed (x ∷ xs) [] = []
summed (x ∷ xs) (y ∷ ys) = bit_xor x y ∷ summed xs ys

pub number_of_sum : (a b : ℕ) (xs ys : List ℕ) → length xs ≡ length ys → Bytes xs → Bytes ys → number_from (bit_xor a b) (summed xs ys) ≡ bit_xor (number_from a xs) (number_from b ys)
number_of_sum a b [] [] e p q = refl
number_of_sum a b [] (y ∷ ys) e p q = absurd (omega arith)
number_of_sum a b (x ∷ xs) [] e p q = absurd (omega arith)
number_of_sum a b (x ∷ xs) (y ∷ ys) e p q =
    ap (λ (n : ℕ). number_from n (summed xs ys)) (sym (xor_block 8 a b x y (first_byte x xs p) (first_byte y ys q)))
    ∙ number_of_sum (a * 256 + x) (b * 256 + y) xs ys (omega arith) (rest_bytes x xs p) (rest_bytes y ys q)

carried : (a b q r : ℕ) → (a * 256 + b) * q + r ≡ a * (q * 256) + (b * q + r)
carried a b q r =
    ap (λ (n : ℕ). n + r) (add-mul (a * 256) b q ∙ ap (λ (n : ℕ). n + b * q) (mul_assoc a 256 q ∙ ap (λ (n : ℕ). a * n) (mul_comm 256 q))) ∙ add_assoc (a * (q * 256)) (b * q) r

byte_split : (k n : ℕ) → n % 256 ^ suc k ≡ byte_at k n * 256 ^ k + n % 256 ^ k
byte_split k n =
    let place : 8 * suc k ≡ 8 + 8 * k = omega arith in
    let whole : 256 ^ suc k ≡ 2 ^ (8 + 8 * k) = bytes_power (suc k) ∙ ap (λ (i : ℕ). 2 ^ i) place in
    let q = sym (bytes_power k) in
    ap (λ (p : ℕ). n % p) whole ∙ mod-pow-add n 8 (8 * k) ∙ ap (λ (b : ℕ). b * 2 ^ (8 * k) + n % 2 ^ (8 * k)) (sym (byte_is k n)) ∙ ap (λ (p : ℕ). byte_at k n * p + n % p) q

-- the bytes of a number, highest first, give it back
pub number_of_bytes : (a k n : ℕ) → number_from a (bytes_high_first k n) ≡ a * 256 ^ k + n % 256 ^ k
number_of_bytes a zero n = omega arith
number_of_bytes a (suc k) n =
    number_of_bytes (a * 256 + byte_at k n) k n ∙ carried a (byte_at k n) (256 ^ k) (n % 256 ^ k)
    ∙ ap (λ (p : ℕ). a * p + (byte_at k n * 256 ^ k + n % 256 ^ k)) (sym (pow-suc 256 k)) ∙ ap (λ (r : ℕ). a * 256 ^ suc k + r) (sym (byte_split k n))

-- sixteen bytes as a number
sixteen : (x0 x1 x2 x3 x4 x5 x6 x7 x8 x9 x10 x11 x12 x13 x14 x15 : ℕ) → block_number (x0 ∷ x1 ∷ x2 ∷ x3 ∷ x4 ∷ x5 ∷ x6 ∷ x7 ∷ x8 ∷ x9 ∷ x10 ∷ x11 ∷ x12 ∷ x13 ∷ x14 ∷ x15 ∷ []) ≡ number_from 0 (x0 ∷ x1 ∷ x2 ∷ x3 ∷ x4 ∷ x5 ∷ x6 ∷ x7 ∷ x8 ∷ x9 ∷ x10 ∷ x11 ∷ x12 ∷ x13 ∷ x14 ∷ x15 ∷ [])
sixteen x0 x1 x2 x3 x4 x5 x6 x7 x8 x9 x10 x11 x12 x13 x14 x15 = omega arith

pub block_number_is : (xs : List ℕ) → length xs ≡ 16 → block_number xs ≡ number_from 0 xs
block_number_is xs long =
    let e = spelled_out xs 16 long in
    ap block_number e ∙ sixteen (get_or xs 0 0) (get_or xs 1 0) (get_or xs 2 0) (get_or xs 3 0) (get_or xs 4 0) (get_or xs 5 0) (get_or xs 6 0) (get_or xs 7 0) (get_or xs 8 0) (get_or xs 9 0) (get_or xs 10 0) (get_or xs 11 0) (get_or xs 12 0) (get_or xs 13 0) (get_or xs 14 0) (get_or xs 15 0) ∙ sym (ap (number_from 0) e)

number_split : (a : ℕ) (xs : List ℕ) → number_from a xs ≡ a * 256 ^ length xs + number_from 0 xs
number_split a [] = omega arith
number_split a (x ∷ xs) =
    let q = 256 ^ length xs in
    let none : 0 * 256 + x ≡ x = omega arith in
    number_split (a * 256 + x) xs ∙ carried a x q (number_from 0 xs) ∙ ap (λ (p : ℕ). a * p + (x * q + number_from 0 xs)) (sym (pow-suc 256 (length xs)))
    ∙ ap (λ (r : ℕ). a * 256 ^ suc (length xs) + r) (ap (λ (b : ℕ). b * q + number_from 0 xs) (sym none) ∙ sym (number_split (0 * 256 + x) xs))

number_small : (xs : List ℕ) → Bytes xs → number_from 0 xs < 256 ^ length xs
number_small [] h = omega arith
number_small (x ∷ xs) h =
    let q = 256 ^ length xs in
    let none : 0 * 256 + x ≡ x = omega arith in
    let e = number_split (0 * 256 + x) xs ∙ ap (λ (b : ℕ). b * q + number_from 0 xs) none in
    let lt = mul-add-lt x q (number_from 0 xs) 256 (first_byte x xs h) (number_small xs (rest_bytes x xs h)) in
    omega (arith, e, lt, pow-suc 256 (length xs))

-- and its bytes
pub bytes_of_number : (a : ℕ) (xs : List ℕ) → Bytes xs → bytes_high_first (length xs) (number_from a xs) ≡ xs
bytes_of_number a [] h = refl
bytes_of_number a (x ∷ xs) h =
    let k = length xs in
    let n = number_from (a * 256 + x) xs in
    let small = first_byte x xs h in
    let split : n ≡ (a * 256 + x) * 2 ^ (8 * k) + number_from 0 xs = number_split (a * 256 + x) xs ∙ ap (λ (p : ℕ). (a * 256 + x) * p + number_from 0 xs) (bytes_power k) in
    let low : number_from 0 xs < 2 ^ (8 * k) = subst (λ (p : ℕ). number_from 0 xs < p) (bytes_power k) (number_small xs (rest_bytes x xs h)) in
    let high : n / 2 ^ (8 * k) ≡ a * 256 + x = ap (λ (m : ℕ). m / 2 ^ (8 * k)) split ∙ shr_high (a * 256 + x) (8 * k) (number_from 0 xs) low in
    let top : byte_at k n ≡ x = byte_is k n ∙ ap (λ (m : ℕ). m % 256) high ∙ (omega arith) in
    ap (λ (b : ℕ). b ∷ bytes_high_first k n) top ∙ ap (λ (r : List ℕ). x ∷ r) (bytes_of_number (a * 256 + x) xs (rest_bytes x xs h))
