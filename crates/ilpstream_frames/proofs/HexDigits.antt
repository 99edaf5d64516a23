-- Digits by the table of their values.
use Rattle.std.proofs.Common.{◌≡◌, ◌<◌, ℕ, ◌+◌, ◌*◌, ◌⊎◌, inl, inr, true, List, get_or, Option, Some, None, Result, Ok, Err, refl, arith, is_some, unwrap_or}
use Rattle.std.proofs.lemmas.List.FromFn.{get_or-map-range_with_len}
use Rattle.hex.specs.Hex.{digit_or_error, hex_digit_value, is_hex_digit, pair_value, value_at}
use Rattle.hex.specs.declared.error.FromHexError.{FromHexError}
use Rattle.hex.specs.declared.error.FromHexError.TheVariants.{InvalidHexCharacter}
use Rattle.ilpstream_frames.specs.Digits.{digit_code, digit_codes}

pub at_digit_codes : (codes : List ℕ) (k : ℕ) → codes ≡ digit_codes → k < 256 → get_or codes k 0 ≡ digit_code k
at_digit_codes codes k e lt = rw e (get_or-map-range_with_len digit_code 0 256 k k 0 lt (omega arith))

-- what has a value below 16 is a digit
pub small_is_digit : (c : ℕ) → digit_code c < 16 → is_hex_digit c ≡ true
small_is_digit c lt = by_value (hex_digit_value c) lt
  where
    by_value : (o : Option ℕ) → unwrap_or o 255 < 16 → is_some o ≡ true
    by_value (Some v) lt = refl
    by_value None lt = absurd (omega arith)

reads : (c i : ℕ) → digit_code c < 16 → value_at c i ≡ Ok (digit_code c)
reads c i lt = by_value (hex_digit_value c) lt
  where
    by_value : (o : Option ℕ) → unwrap_or o 255 < 16 → digit_or_error c i o ≡ Ok (unwrap_or o 255)
    by_value (Some v) lt = refl
    by_value None lt = absurd (omega arith)

-- two digits
pub pair_reads : (a b i : ℕ) → digit_code a < 16 → digit_code b < 16 → pair_value a b i ≡ Ok (digit_code a * 16 + digit_code b)
pair_reads a b i high low = rw (reads a i high, reads b (i + 1) low) refl

value-small : (c v : ℕ) → hex_digit_value c ≡ Some v → v < 16
value-small c v h = grind (arith)

fails : (c i : ℕ) → 15 < digit_code c → value_at c i ≡ Err (InvalidHexCharacter c i)
fails c i gt = by_value (hex_digit_value c) refl gt
  where
    by_value : (o : Option ℕ) → hex_digit_value c ≡ o → 15 < unwrap_or o 255 → digit_or_error c i o ≡ Err (InvalidHexCharacter c i)
    by_value (Some v) e gt = absurd (omega (arith, value-small c v e, gt))
    by_value None e gt = refl

-- two characters, one of which is not a digit
pub pair_fails : (a b i : ℕ) → (15 < digit_code a) ⊎ (15 < digit_code b) → (e : FromHexError) × (pair_value a b i ≡ Err e)
pair_fails a b i either = elim either [
  | inl high ↦ (InvalidHexCharacter a i, rw (fails a i high) refl)
  | inr low ↦ by_high (value_at a i) refl (fails b (i + 1) low)
]
  where
    by_high : (r : Result ℕ FromHexError) → value_at a i ≡ r → value_at b (i + 1) ≡ Err (InvalidHexCharacter b (i + 1)) → (e : FromHexError) × (pair_value a b i ≡ Err e)
    by_high (Ok h) e low = (InvalidHexCharacter b (i + 1), rw (e, low) refl)
    by_high (Err x) e low = (x, rw e refl)
