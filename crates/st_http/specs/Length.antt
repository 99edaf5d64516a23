-- The length of a body, as the fields of a head give it (RFC 9112, section 6; that equal lengths may be given twice is RFC
-- 9110, section 8.6).
use Rattle.std.specs.Prelude.{ℕ, ◌+◌, ◌-◌, ◌*◌, Bool, ◌&&◌, ◌==◌, nat_lt, nat_le, List, [], ◌∷◌, length, fold, if◌then◌else◌, codes}
use Rattle.std.specs.List.{list_all}
use Rattle.std.specs.Char.{is_ascii_digit}
use Rattle.st_http.specs.declared.length.Length.{Length}
use Rattle.st_http.specs.declared.length.Length.TheVariants.{Missing, Malformed, TooLong, Of}
use Rattle.st_http.specs.Fields.{Pair, values_of}

-- the greatest length of a body
abbrev pub body_limit : ℕ
body_limit = 65535

-- one digit or more, and nothing else
abbrev pub is_number : List ℕ → Bool
is_number value = nat_lt 0 (length value) && list_all is_ascii_digit value

-- the number that digits write
abbrev pub number : List ℕ → ℕ
number digits = fold (λ n d. 10 * n + (d - 48)) 0 digits

-- the value writes this number
abbrev pub is_number_of : ℕ → List ℕ → Bool
is_number_of n value = is_number value && (number value == n)

-- a number is a length up to the limit
abbrev pub length_up_to : ℕ → Length
length_up_to n = if nat_le n body_limit then Of n else TooLong

-- what the values of Content-Length say: each has to be a number, and no two differ
abbrev pub length_said : List (List ℕ) → Length
length_said [] = Missing
length_said (value ∷ values) =
    if is_number value && list_all (is_number_of (number value)) values then length_up_to (number value) else Malformed

-- the same if there are these values of Transfer-Encoding: with one there is no length
abbrev pub length_beside : List (List ℕ) → List (List ℕ) → Length
length_beside [] lengths = length_said lengths
length_beside (coding ∷ codings) lengths = Missing

-- the length of the body after these fields
abbrev pub length_by : List Pair → Length
length_by fields = length_beside (values_of (codes "transfer-encoding") fields) (values_of (codes "content-length") fields)

-- the digits without the zeros in front
abbrev pub without_zeros : List ℕ → List ℕ
without_zeros [] = []
without_zeros (d ∷ ds) = if d == 48 then without_zeros ds else d ∷ ds
