-- The end of a message's head: its first empty line, or the limit.
use Rattle.std.specs.Prelude.{◌≡◌, ℕ, ◌≤◌, ◌⊎◌, Bool, false, ◌&&◌, ◌||◌, ◌==◌, not, List, [], ◌∷◌, length, take, nat_eq, IsTrue}
use Rattle.std.specs.List.{list_any, ends_with}

-- the most bytes of a head, the empty line at its end among them
abbrev pub head_limit : ℕ
head_limit = 8192

-- the most fields of a head
abbrev pub field_limit : ℕ
field_limit = 64

-- a byte that is neither CR nor LF
abbrev pub is_text_byte : ℕ → Bool
is_text_byte b = not (b == 13 || b == 10)

-- the bytes end with an empty line
abbrev pub ends_line : List ℕ → Bool
ends_line bytes = ends_with nat_eq bytes (10 ∷ 10 ∷ []) || ends_with nat_eq bytes (10 ∷ 13 ∷ 10 ∷ [])

-- the bytes end with an empty line, and are more than empty lines
unfoldable pub ends_head : List ℕ → Bool
ends_head bytes = list_any is_text_byte bytes && ends_line bytes

-- no empty line after text so far
abbrev pub IsOpen : List ℕ → Type 0
IsOpen text = (k : ℕ) → k ≤ length text → ends_head (take k text) ≡ false

-- an empty line follows text, or there are as many bytes as a head may have
abbrev pub IsOver : List ℕ → Type 0
IsOver text = ((k : ℕ) × (k ≤ length text) × IsTrue (ends_head (take k text))) ⊎ (head_limit ≤ length text)
