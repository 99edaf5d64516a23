-- The fields of a head: each a name, and a value without the white space around it (RFC 9110, section 5).
use Rattle.std.specs.Prelude.{ℕ, Bool, List, map, bytes_eq}
use Rattle.std.specs.List.{filter}
use Rattle.std.specs.Str.{str_to_ascii_lowercase}

-- a name and a value
abbrev pub Pair : Type 0
Pair = List ℕ × List ℕ

-- the field has this name, which is in lower case; its own letters may be in any case
abbrev pub is_named : List ℕ → Pair → Bool
is_named name f = bytes_eq (str_to_ascii_lowercase f.0) name

-- the values of the fields of this name, in their order
abbrev pub values_of : List ℕ → List Pair → List (List ℕ)
values_of name fields = map (λ f. f.1) (filter (is_named name) fields)
