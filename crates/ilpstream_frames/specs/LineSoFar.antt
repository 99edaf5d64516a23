-- What is kept of the line that is being read, and which lines this may be.
use Rattle.std.specs.Prelude.{◌≡◌, ◌≢◌, ℕ, ◌+◌, ◌-◌, ◌*◌, ◌<◌, ◌⊎◌, false, ◌==◌, nat_lt, if◌then◌else◌, List, [], ◌∷◌, ◌++◌, length, take, slice_index, Result, Ok, Err}
use Rattle.std.specs.List.{All, AllPass}
use Rattle.std.specs.Str.Lines.{strip_carriage_return}
use Rattle.hex.specs.Hex.{decode_of, is_hex_digit}
use Rattle.st_frames.specs.Frames.{max_packet}
use Rattle.ilpstream_frames.specs.declared.error.LineError.{LineError}
use Rattle.ilpstream_frames.specs.declared.line.LineEnd.{LineEnd}
use Rattle.ilpstream_frames.specs.declared.line.LineEnd.TheVariants.{Newline, InputEnd}
use Rattle.ilpstream_frames.specs.declared.line.Shape.{Shape}
use Rattle.ilpstream_frames.specs.declared.line.Shape.TheVariants.{Digits, DigitsAndReturn, NotHex}
use Rattle.ilpstream_frames.specs.Answers.{packet_of_line}

-- the digits that are kept, how many there were, and what the line looks like
pub record LineState : Type 0 where
  pub digits : List ℕ
  pub count : ℕ
  pub shape : Shape

-- before the first byte
abbrev pub no_line : LineState
no_line = record { digits = []; count = 0; shape = Digits }

-- the digits of the longest packet
abbrev pub most_digits : ℕ
most_digits = 2 * max_packet

-- one digit more
abbrev pub with_digit : ℕ → LineState → LineState
with_digit b s = record s { digits = (if nat_lt (length s.digits) most_digits then s.digits ++ b ∷ [] else s.digits); count = s.count + 1 }

-- several digits more
abbrev pub with_digits : List ℕ → LineState → LineState
with_digits bs s = record s { digits = s.digits ++ take (most_digits - length s.digits) bs; count = s.count + length bs }

-- the text is of digits alone, which were counted, and the first of which were kept
pub record AreDigits (s : LineState) (text : List ℕ) : Type 0 where
  pub hex : AllPass is_hex_digit text
  pub count : s.count ≡ length text
  pub kept : s.digits ≡ take most_digits text

-- some character of the text is not a digit
pub record HasOther (text : List ℕ) : Type 0 where
  pub place : ℕ
  pub within : place < length text
  pub no_digit : is_hex_digit (slice_index text place) ≡ false

-- a character of the line is not a digit, nor a carriage return at its end
pub record IsSpoiled (line : List ℕ) : Type 0 where
  pub place : ℕ
  pub within : place < length line
  pub no_digit : is_hex_digit (slice_index line place) ≡ false
  pub no_end : (slice_index line place ≢ 13) ⊎ (place + 1 < length line)

abbrev pub HasShape : Shape → LineState → List ℕ → Type 0
HasShape Digits s line = AreDigits s line
HasShape DigitsAndReturn s line = (text : List ℕ) × (line ≡ text ++ 13 ∷ []) × AreDigits s text
HasShape NotHex s line = IsSpoiled line

-- the line so far may be this text
pub record StandsFor (s : LineState) (line : List ℕ) : Type 0 where
  pub one_line : All (λ b. (b == 10) ≡ false) line
  pub shape : HasShape s.shape s line

-- the line's text, without a carriage return before the newline
abbrev pub text_of_line : LineEnd → List ℕ → List ℕ
text_of_line Newline line = strip_carriage_return line
text_of_line InputEnd line = line

-- what the line's bytes are, or why there are none
abbrev pub Spells : {X : Type 0} → (X → List ℕ) → List ℕ → Result X LineError → Type 0
Spells bytes_of text (Ok x) = decode_of text ≡ Ok (bytes_of x)
Spells bytes_of text (Err e) = packet_of_line text ≡ Err e
