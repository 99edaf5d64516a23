-- Texts of others, as they are written in a line.
use Rattle.std.specs.Prelude.{ℕ, ◌+◌, ◌-◌, ◌/◌, ◌%◌, ◌==◌, nat_le, nat_lt, Bool, not, ◌&&◌, if◌then◌else◌, List, [], ◌∷◌, ◌++◌, length}
use Rattle.std.specs.List.{flat_map}

-- from the space to the tilde, and neither the quote nor the backslash
abbrev pub is_plain : ℕ → Bool
is_plain b = nat_le 32 b && (nat_le b 126 && (not (b == 34) && not (b == 92)))

-- 0 to 9, and then a to f
abbrev pub hex_digit : ℕ → ℕ
hex_digit n = if nat_lt n 10 then 48 + n else 87 + n

-- a backslash, an x and two digits
abbrev pub hex_escape : ℕ → List ℕ
hex_escape b = 92 ∷ 120 ∷ hex_digit (b / 16) ∷ hex_digit (b % 16) ∷ []

-- a byte as it is written in a line: plain, the quote and the backslash after a backslash, and each other one by its digits
unfoldable pub escaped : ℕ → List ℕ
escaped b = if b == 34 then 92 ∷ 34 ∷ [] else (if b == 92 then 92 ∷ 92 ∷ [] else (if is_plain b then b ∷ [] else hex_escape b))

abbrev pub all_escaped : List ℕ → List ℕ
all_escaped bytes = flat_map escaped bytes

-- in double quotes
unfoldable pub quoted : List ℕ → List ℕ
quoted bytes = 34 ∷ all_escaped bytes ++ 34 ∷ []

-- ---- texts of peers, which are cut

-- how many characters such a text has in a line at most
abbrev pub most_quoted : ℕ
most_quoted = 256

-- The characters of a line that have to be left for a byte to be written. For one that begins a character of two, three or four
-- bytes (RFC 3629, section 3) these are the escapes of all of them, so that no character is cut in two
abbrev pub needed : ℕ → ℕ
needed b = if nat_lt b 192 then length (escaped b) else (if nat_lt b 224 then 8 else (if nat_lt b 240 then 12 else 16))

-- the bytes at the front of a text that are written in a line if `left` characters are left
abbrev pub fitting : (left : ℕ) → List ℕ → List ℕ
fitting left [] = []
fitting left (b ∷ text) = if nat_le (needed b) left then b ∷ fitting (left - length (escaped b)) text else []

-- two dots, if not all of a text is written in the line
abbrev pub dots : (kept text : List ℕ) → List ℕ
dots kept text = if nat_lt (length kept) (length text) then 46 ∷ 46 ∷ [] else []

-- in double quotes, and cut
unfoldable pub quoted_short : List ℕ → List ℕ
quoted_short text = 34 ∷ all_escaped (fitting most_quoted text) ++ (dots (fitting most_quoted text) text ++ 34 ∷ [])
