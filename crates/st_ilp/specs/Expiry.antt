-- The text of an expiry (RFC 0027, expiresAt): YYYYMMDDHHMMSSfff, a date that exists and a time of day in UTC.
use Rattle.std.specs.Prelude.{◌≡◌, ℕ, ◌+◌, ◌-◌, ◌*◌, ◌/◌, ◌%◌, ◌==◌, Bool, ◌&&◌, if◌then◌else◌, List, [], ◌∷◌, length, slice_index, ℤ, pos, neg_ℤ, int_le, Result, Ok, Err}
use Rattle.std.specs.List.{list_all}
use Rattle.std.specs.Char.{is_ascii_digit}
use Rattle.st_ilp.specs.declared.error.IlpError.{IlpError}
use Rattle.st_ilp.specs.declared.error.IlpError.TheVariants.{Expiry}
use Rattle.st_ilp.specs.Calendar.{DateAndTime, Exists, exists, milliseconds, date_and_time}

-- the last digit of a number, as a character
abbrev pub digit : ℕ → ℕ
digit n = 48 + n % 10

-- YYYYMMDDHHMMSSfff
abbrev pub digits_of : DateAndTime → List ℕ
digits_of t =
    digit (t.year / 1000) ∷ digit (t.year / 100) ∷ digit (t.year / 10) ∷ digit t.year
    ∷ digit (t.month / 10) ∷ digit t.month ∷ digit (t.day / 10) ∷ digit t.day
    ∷ digit (t.hour / 10) ∷ digit t.hour ∷ digit (t.minute / 10) ∷ digit t.minute
    ∷ digit (t.second / 10) ∷ digit t.second
    ∷ digit (t.milli / 100) ∷ digit (t.milli / 10) ∷ digit t.milli ∷ []

-- the text of the one existing date and time with this value
abbrev pub IsExpiry : List ℕ → ℤ → Type 0
IsExpiry text millis = (t : DateAndTime) × Exists t × (text ≡ digits_of t) × (millis ≡ milliseconds t)

-- ---- writing

-- from the start of the year 0 to the end of the year 9999
abbrev pub is_expiry : ℤ → Bool
is_expiry millis = int_le (neg_ℤ (pos 62_167_219_200_000)) millis && int_le millis (pos 253_402_300_799_999)

-- the text of a value
unfoldable pub expiry_text : ℤ → List ℕ
expiry_text millis = digits_of (date_and_time millis)

-- the text of a value, or that it has none
abbrev pub written_expiry : ℤ → Result (List ℕ) IlpError
written_expiry millis = if is_expiry millis then Ok (expiry_text millis) else Err Expiry

-- ---- reading

abbrev pub digit_at : List ℕ → ℕ → ℕ
digit_at text i = slice_index text i - 48

abbrev pub two_at : List ℕ → ℕ → ℕ
two_at text i = digit_at text i * 10 + digit_at text (i + 1)

-- the numbers that the digits give, which may name no date and time
abbrev pub numbers_in : List ℕ → DateAndTime
numbers_in text = record {
  year = two_at text 0 * 100 + two_at text 2;
  month = two_at text 4;
  day = two_at text 6;
  hour = two_at text 8;
  minute = two_at text 10;
  second = two_at text 12;
  milli = two_at text 14 * 10 + digit_at text 16;
}

-- exactly 17 digits, and a date and time that exist
abbrev pub is_expiry_text : List ℕ → Bool
is_expiry_text text = (length text == 17) && (list_all is_ascii_digit text && exists (numbers_in text))

-- the value of a text
unfoldable pub expiry_at : List ℕ → Result ℤ IlpError
expiry_at text = if is_expiry_text text then Ok (milliseconds (numbers_in text)) else Err Expiry
