-- Hexadecimal digits by a table of their values.
use Rattle.std.specs.Prelude.{◌≡◌, ℕ, List, map, Option, Some, None, Result, Ok, Err}
use Rattle.std.specs.Option.{unwrap_or}
use Rattle.std.specs.List.{range_with_len}
use Rattle.hex.specs.Hex.{decode_of, hex_digit_value}
use Rattle.hex.specs.declared.error.FromHexError.{FromHexError}

-- the value of a digit, or 255
abbrev pub digit_code : ℕ → ℕ
digit_code c = unwrap_or (hex_digit_value c) 255

-- that of each byte
abbrev pub digit_codes : List ℕ
digit_codes = map digit_code (range_with_len 0 256)

-- text that spells no bytes
abbrev pub DoesNotDecode : Result (List ℕ) FromHexError → Type 0
DoesNotDecode answer = (e : FromHexError) × (answer ≡ Err e)

-- the bytes that a text spells, if it spells any
abbrev pub Decodes : {X : Type 0} → (X → List ℕ) → List ℕ → Option X → Type 0
Decodes bytes_of text None = DoesNotDecode (decode_of text)
Decodes bytes_of text (Some x) = decode_of text ≡ Ok (bytes_of x)
