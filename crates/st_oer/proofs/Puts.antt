-- What the writers append.
use Rattle.std.proofs.Common.{◌≡◌, ℕ, zero, suc, ◌+◌, ◌-◌, ◌^◌, ◌<◌, ◌≤◌, List, [], ◌∷◌, ◌++◌, length, drop, set, refl, sym, ap, ◌∙◌, arith}
use Rattle.std.proofs.lemmas.Bool.{lt-ltb, le-ltb}
use Rattle.std.proofs.lemmas.List.{length-append}
use Rattle.std.specs.Int.{w64, bytes_high_first, to_be_bytes}
use Rattle.st_oer.specs.Spelling.{byte_count, digits, length_bytes, var_uint}
use Rattle.st_oer.proofs.Bytes.{length-bytes_high_first}
use Rattle.st_oer.proofs.Digits.{counted}

pub tail_is : (n x v : ℕ) → 1 ≤ n → n ≤ 8 → drop (8 - n) (set (v ∷ to_be_bytes w64 x) (8 - n) v) ≡ v ∷ bytes_high_first n x
tail_is zero x v some few = absurd (omega arith)
tail_is (suc zero) x v some few = refl
tail_is (suc (suc zero)) x v some few = refl
tail_is (suc (suc (suc zero))) x v some few = refl
tail_is (suc (suc (suc (suc zero)))) x v some few = refl
tail_is (suc (suc (suc (suc (suc zero))))) x v some few = refl
tail_is (suc (suc (suc (suc (suc (suc zero)))))) x v some few = refl
tail_is (suc (suc (suc (suc (suc (suc (suc zero))))))) x v some few = refl
tail_is (suc (suc (suc (suc (suc (suc (suc (suc zero)))))))) x v some few = refl
tail_is (suc (suc (suc (suc (suc (suc (suc (suc (suc n))))))))) x v some few = absurd (omega arith)

pub var_uint_is : (x n : ℕ) → x < 2 ^ 64 → n ≡ byte_count x → var_uint x ≡ n ∷ bytes_high_first n x
unfolding var_uint length_bytes digits
var_uint_is x n lt e =
    let c = counted x lt in
    let k : length (bytes_high_first (byte_count x) x) ≡ byte_count x = length-bytes_high_first (byte_count x) x in
    rw (e, k, lt-ltb (byte_count x) 128 (omega (arith, c.few))) refl

pub length_is_short : (x : ℕ) → x < 128 → length_bytes x ≡ x ∷ []
unfolding length_bytes
length_is_short x lt = rw (lt-ltb x 128 lt) refl

pub length_is_long : (x n : ℕ) → 128 ≤ x → n ≡ byte_count x → length_bytes x ≡ (128 + n) ∷ bytes_high_first n x
unfolding length_bytes digits
length_is_long x n le e =
    let k : length (bytes_high_first (byte_count x) x) ≡ byte_count x = length-bytes_high_first (byte_count x) x in
    rw (e, le-ltb x 128 le, k) refl

pub length-var_uint : (x n : ℕ) → x < 2 ^ 64 → n ≡ byte_count x → length (var_uint x) ≡ 1 + n
length-var_uint x n lt e = rw (var_uint_is x n lt e) (omega (arith, length-bytes_high_first n x))

pub length-length_short : (x : ℕ) → x < 128 → length (length_bytes x) ≡ 1
length-length_short x lt = rw (length_is_short x lt) refl

pub length-length_long : (x n : ℕ) → 128 ≤ x → n ≡ byte_count x → length (length_bytes x) ≡ 1 + n
length-length_long x n le e = rw (length_is_long x n le e) (omega (arith, length-bytes_high_first n x))

pub ruleset sizes = (length-var_uint, length-length_short, length-length_long)

pub ruleset puts = (tail_is, var_uint_is, length_is_short, length_is_long, length-bytes_high_first, length-append)
