-- Numbers in decimal digits, and the texts that are made of them.
use Rattle.std.specs.Prelude.{◌≡◌, ◌≢◌, ℕ, ◌≤◌, ◌<◌, true, List, ◌∷◌, ◌++◌, length, slice_index}
use Rattle.st_http.specs.Length.{is_number, number}
use Rattle.st_http.specs.Texts.{is_field_text}
use Rattle.st_oer.specs.Ratios.{Ratio, IsRatio}

-- the text is digits alone, one or more, and they write n, which is at most `most`
pub record IsNumber (most : ℕ) (text : List ℕ) (n : ℕ) : Type 0 where
  pub digits : is_number text ≡ true
  pub value : n ≡ number text
  pub bounded : n ≤ most

-- the text is front, a colon and back
abbrev pub IsPair : List ℕ → List ℕ → List ℕ → Type 0
IsPair text front back = text ≡ front ++ 58 ∷ back

-- the text has no colon
abbrev pub LacksColon : List ℕ → Type 0
LacksColon text = (i : ℕ) → i < length text → slice_index text i ≢ 58

-- the greatest port
abbrev pub most_port : ℕ
most_port = 65535

-- HOST:PORT: a name that is not empty, a colon, and a port; the whole may be in a request
pub record IsHostPort (text : List ℕ) : Type 0 where
  pub host : List ℕ
  pub port : List ℕ
  pub n : ℕ
  pub parts : IsPair text host port
  pub named : 0 < length host
  pub number : IsNumber most_port port n
  pub visible : is_field_text text ≡ true

-- the greatest number of a rate
abbrev pub most_term : ℕ
most_term = 4294967295

-- these two texts write the rate r, neither number of which is 0
pub record AreTerms (num den : List ℕ) (r : Ratio) : Type 0 where
  pub num_is : IsNumber most_term num r.num
  pub den_is : IsNumber most_term den r.den
  pub ratio : IsRatio r

-- NUM:DEN
abbrev pub IsRate : List ℕ → Ratio → Type 0
IsRate text r = (num : List ℕ) × (den : List ℕ) × IsPair text num den × AreTerms num den r
