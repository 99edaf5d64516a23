-- The rules on fields: RFC 0027 with the limits of this profile.
use Rattle.std.specs.Prelude.{ℕ, ◌==◌, nat_le, slice_index_or, Bool, ◌&&◌, ◌||◌, List, length}
use Rattle.std.specs.List.{list_all}
use Rattle.st_oer.specs.Address.{is_address}

-- the most bytes of data
abbrev pub max_data : ℕ
max_data = 32_767

-- the most bytes of a message that is written
abbrev pub max_message : ℕ
max_message = 8_191

-- not too long for the data field
abbrev pub is_data : List ℕ → Bool
is_data bytes = nat_le (length bytes) max_data

-- triggeredBy: an address, or nothing if the sender is not named
abbrev pub is_sender : List ℕ → Bool
is_sender text = (length text == 0) || is_address text

-- a printable ASCII character, and no space
abbrev pub is_code_character : ℕ → Bool
is_code_character c = nat_le 0x21 c && nat_le c 0x7e

-- a code of an error
abbrev pub is_code : List ℕ → Bool
is_code text = list_all is_code_character text

-- the class of an error: its code's first character, which is F, T or R in RFC 0027
abbrev pub class_of : List ℕ → ℕ
class_of text = slice_index_or text 0 0
