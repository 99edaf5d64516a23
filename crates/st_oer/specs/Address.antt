-- ILP addresses (RFC 0015), as this profile has them: 1 to 1,023 characters, and no empty segment.
use Rattle.std.specs.Prelude.{ℕ, ◌==◌, ◌||◌, ◌&&◌, nat_eq, nat_lt, nat_le, Bool, List, [], ◌∷◌, ◌++◌, length, bytes_eq}
use Rattle.std.specs.List.{list_all, slice_split, starts_with}
use Rattle.std.specs.Char.{is_ascii_alphanumeric}

-- the most characters of an address
abbrev pub max_address : ℕ
max_address = 1023

-- the character that ends a segment
abbrev pub dot : ℕ
dot = 46

abbrev pub is_dot : ℕ → Bool
is_dot c = c == dot

-- a letter, a digit, '_', '~' or '-'
abbrev pub is_segment_character : ℕ → Bool
is_segment_character c = is_ascii_alphanumeric c || (c == 95 || (c == 126 || c == 45))

-- one or more of these
abbrev pub is_segment : List ℕ → Bool
is_segment text = nat_lt 0 (length text) && list_all is_segment_character text

-- segments with a dot between each two
abbrev pub is_segments : List ℕ → Bool
is_segments text = list_all is_segment (slice_split is_dot text)

-- so, and not too many characters in all
unfoldable pub is_address : List ℕ → Bool
is_address text = nat_le (length text) max_address && is_segments text

-- the address is the prefix, or begins with the prefix and a dot
unfoldable pub is_within : List ℕ → List ℕ → Bool
is_within prefix address = bytes_eq address prefix || starts_with nat_eq address (prefix ++ dot ∷ [])
