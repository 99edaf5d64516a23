-- Numbers and their bytes, the highest first.
use Rattle.std.proofs.Common.{◌≡◌, ℕ, zero, suc, ◌+◌, ◌*◌, ◌%◌, ◌^◌, ◌<◌, ◌≤◌, List, [], ◌∷◌, length, fold, refl, sym, ap, ◌∙◌, arith, pow-suc, mul_comm, add-one}
use Rattle.std.proofs.Math.Nat.{pow-le-pow_right, mod-eq_of_lt, one-le-pow, mul-le-mul_right, mul_assoc, add-mul-div_right}
use Rattle.std.proofs.Math.Arith.{mod-mul}
use Rattle.std.proofs.lemmas.Nat.{div-mul-add}
use Rattle.std.specs.Int.{byte_at, bytes_high_first}
use Rattle.st_oer.specs.Spelling.{number}
pub use Rattle.st_oer.specs.Laws.{IsBytes}

-- one more byte is below the next power
pub power_more : (n i byte : ℕ) → n < 256 ^ i → byte < 256 → n * 256 + byte < 256 ^ (i + 1)
power_more n i byte small fits =
    let e : 256 ^ (i + 1) ≡ 256 ^ i * 256 = rw (add-one, pow-suc) refl in
    omega (arith, e)

pub power_at_most : (n i byte : ℕ) → i < 8 → n < 256 ^ i → byte < 256 → n * 256 + byte < 2 ^ 64
power_at_most n i byte le small fits =
    let m = power_more n i byte small fits in
    let p = pow-le-pow_right {n = 256} (omega arith) {i = i + 1} {j = 8} (omega arith) in
    omega (arith, p)

pub IsBytes-rest : (b : ℕ) (bytes : List ℕ) → IsBytes (b ∷ bytes) → IsBytes bytes
IsBytes-rest b bytes h i = h (suc i)

pub length-bytes_high_first : (k n : ℕ) → length (bytes_high_first k n) ≡ k
length-bytes_high_first zero n = refl
length-bytes_high_first (suc k) n = ap suc (length-bytes_high_first k n)

power_some : (k : ℕ) → 0 < 256 ^ k
power_some k = one-le-pow k 256 (omega arith)

-- one more byte in front of the low k bytes
byte_on : (k n high : ℕ) → (high * 256 + byte_at k n) * 256 ^ k + n % 256 ^ k ≡ high * 256 ^ suc k + n % 256 ^ suc k
byte_on zero n high = omega arith
byte_on (suc k) n high =
    let unit = 256 ^ suc k in
    let wider : 256 ^ suc (suc k) ≡ 256 * unit = pow-suc 256 (suc k) ∙ mul_comm unit 256 in
    let some : 0 < unit = power_some (suc k) in
    rw (wider, mod-mul n {m = 256} {c = unit} (omega arith) some) (omega arith)

bytes_read : (k n high : ℕ) → fold (λ h byte. h * 256 + byte) high (bytes_high_first k n) ≡ high * 256 ^ k + n % 256 ^ k
bytes_read zero n high = omega arith
bytes_read (suc k) n high = bytes_read k n (high * 256 + byte_at k n) ∙ byte_on k n high

-- what is written with enough bytes is read again
pub number-again : (k n : ℕ) → n < 256 ^ k → number (bytes_high_first k n) ≡ n
number-again k n lt = bytes_read k n 0 ∙ omega (arith, mod-eq_of_lt lt)

-- a number by its first byte and the others
number_from : (high : ℕ) (bytes : List ℕ) → fold (λ n byte. n * 256 + byte) high bytes ≡ high * 256 ^ length bytes + number bytes
number_from high [] = omega arith
number_from high (b ∷ bytes) =
    let unit = 256 ^ length bytes in
    let one = number_from (high * 256 + b) bytes in
    let two = number_from (0 * 256 + b) bytes in
    let wider : 256 ^ suc (length bytes) ≡ unit * 256 = pow-suc 256 (length bytes) in
    rw wider (one ∙ omega (arith, two))

pub number-cons : (b : ℕ) (bytes : List ℕ) → number (b ∷ bytes) ≡ b * 256 ^ length bytes + number bytes
number-cons b bytes = number_from (0 * 256 + b) bytes ∙ omega arith

pub number_below : (bytes : List ℕ) → IsBytes bytes → number bytes < 256 ^ length bytes
number_below [] fits = omega arith
number_below (b ∷ bytes) fits =
    let below = number_below bytes (IsBytes-rest b bytes fits) in
    let first : b < 256 = fits 0 in
    let wider : 256 ^ suc (length bytes) ≡ 256 ^ length bytes * 256 = pow-suc 256 (length bytes) in
    let le : b + 1 ≤ 256 = omega arith in
    let room = mul-le-mul_right (256 ^ length bytes) le in
    rw (number-cons b bytes, wider) (omega arith)

-- what lies above the k bytes does not show in them
byte_at_low : (k q m : ℕ) → byte_at k (m + q * 256 * 256 ^ k) ≡ byte_at k m
byte_at_low zero q m = omega arith
byte_at_low (suc k) q m =
    let moved = add-mul-div_right m (q * 256) {z = 256 ^ suc k} (power_some (suc k)) in
    rw moved (omega arith)

bytes_low : (k q m : ℕ) → bytes_high_first k (m + q * 256 ^ k) ≡ bytes_high_first k m
bytes_low zero q m = refl
bytes_low (suc k) q m =
    let wider : q * 256 ^ suc k ≡ q * 256 * 256 ^ k = ap (λ (x : ℕ). q * x) (pow-suc 256 k ∙ mul_comm (256 ^ k) 256) ∙ sym (mul_assoc q 256 (256 ^ k)) in
    rw (wider, byte_at_low k q m, bytes_low k (q * 256) m) refl

first_of : (b : ℕ) (bytes : List ℕ) → IsBytes (b ∷ bytes) → byte_at (length bytes) (number (b ∷ bytes)) ≡ b
first_of b [] fits = let h : b < 256 = fits 0 in omega arith
first_of b (a ∷ bytes) fits =
    let below = number_below (a ∷ bytes) (IsBytes-rest b (a ∷ bytes) fits) in
    let h : b < 256 = fits 0 in
    rw (number-cons b (a ∷ bytes), div-mul-add b (256 ^ suc (length bytes)) (number (a ∷ bytes)) below) (omega arith)

-- what is read is written again with as many bytes
pub bytes-again : (bytes : List ℕ) → IsBytes bytes → bytes_high_first (length bytes) (number bytes) ≡ bytes
bytes-again [] fits = refl
bytes-again (b ∷ bytes) fits =
    let turned : number (b ∷ bytes) ≡ number bytes + b * 256 ^ length bytes = number-cons b bytes ∙ omega arith in
    let rest : bytes_high_first (length bytes) (number (b ∷ bytes)) ≡ bytes = rw (turned, bytes_low (length bytes) b (number bytes)) (bytes-again bytes (IsBytes-rest b bytes fits)) in
    rw (first_of b bytes fits, rest) refl
