-- The account of a request: the place of its token in the list of tokens (RFC 6750, section 2.1).
use Rattle.std.specs.Prelude.{ℕ, Bool, ◌==◌, ◌&&◌, List, [], ◌∷◌, take, drop, slice_index, if◌then◌else◌, codes, bytes_eq, Option, None}
use Rattle.std.specs.Option.{option_or}
use Rattle.std.specs.List.{position_from}
use Rattle.std.specs.Str.{str_to_ascii_lowercase}
use Rattle.st_http.specs.Fields.{Pair, values_of}

-- the bytes from the first one that is not a space
abbrev pub without_spaces : List ℕ → List ℕ
without_spaces [] = []
without_spaces (b ∷ bytes) = if b == 32 then without_spaces bytes else b ∷ bytes

-- the value is of the scheme Bearer, its letters in any case, and a space follows
abbrev pub is_bearer : List ℕ → Bool
is_bearer value = bytes_eq (str_to_ascii_lowercase (take 6 value)) (codes "bearer") && (slice_index value 6 == 32)

-- the first place of the value's token among the tokens
abbrev pub place_of : List (List ℕ) → List ℕ → Option ℕ
place_of tokens value = if is_bearer value then position_from (λ t. bytes_eq t (without_spaces (drop 6 value))) 0 tokens else None

-- the account by the values of Authorization: the first that has a listed token
abbrev pub account_said : List (List ℕ) → List (List ℕ) → Option ℕ
account_said tokens [] = None
account_said tokens (value ∷ values) = option_or (place_of tokens value) (account_said tokens values)

-- the account by the fields
abbrev pub account_by : List (List ℕ) → List Pair → Option ℕ
account_by tokens fields = account_said tokens (values_of (codes "authorization") fields)
