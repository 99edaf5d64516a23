-- The lines of a connector's table.
use Rattle.std.specs.Prelude.{◌≡◌, ◌≢◌, ◌⊎◌, ◌==◌, ℕ, suc, true, not, ⊤, List, [], ◌∷◌, ◌++◌, length, filter, codes, decimal, Option, Some, None, unwrap_or}
use Rattle.std.specs.List.{AllByRecursion, slice_split}
use Rattle.std.specs.Str.Lines.{lines}
use Rattle.st_oer.specs.Ratios.{Ratio, ratio}
use Rattle.st_http.specs.Texts.{is_field_text}
use Rattle.st_hop.specs.declared.route.Route.{Route}
use Rattle.st_http.specs.declared.neighbour.Neighbour.{Neighbour}
use Rattle.ilpstream_settings.specs.declared.line.AccountLine.{AccountLine}
use Rattle.ilpstream_settings.specs.Numbers.{AreTerms, IsHostPort, IsNumber}
use Rattle.ilpstream_settings.specs.Settings.{most_money, said}

abbrev pub Text : Type 0
Text = List ℕ

-- the fields of a line: the texts between spaces
abbrev pub words_of : Text → List Text
words_of line = filter (λ w. not (length w == 0)) (slice_split (λ b. b == 32) line)

-- the neighbour to which the Prepares for an account are sent, by HOST:PORT and the token there: none by `-` and `-`
abbrev pub Leads : Text → Text → Option Neighbour → Type 0
Leads host token None = (host ≡ codes "-") × (token ≡ codes "-")
Leads host token (Some n) = (n.host.now ≡ host) × IsHostPort host × (n.token.now ≡ token) × (is_field_text token ≡ true)

-- the account has these terms, and is known by this token
pub record HasTerms (limit max_packet token : Text) (a : AccountLine) : Type 0 where
  pub limit_is : IsNumber most_money limit a.terms.limit
  pub max_packet_is : IsNumber most_money max_packet a.terms.max_packet
  pub token_is : (a.token.now ≡ token) × (is_field_text token ≡ true)

-- the fields after `route` say this route
pub record IsRoute (prefix account : Text) (rate : Ratio) (r : Route) : Type 0 where
  pub prefix_is : r.prefix.now ≡ prefix
  pub account_is : IsNumber most_money account r.account
  pub rate_is : r.rate ≡ rate

-- the word is `NAME=` and this name, 1 to 255 visible characters
pub record IsNaming (word name : Text) : Type 0 where
  pub word_is : word ≡ codes "NAME=" ++ name
  pub visible : is_field_text name ≡ true

-- the account has this name, or none, and these five fields say the rest of it
pub record IsAccount (name : Option Text) (limit max_packet token host out : Text) (a : AccountLine) : Type 0 where
  pub name_is : said a.name ≡ name
  pub terms : HasTerms limit max_packet token a
  pub leads : Leads host out a.neighbour

-- `account LIMIT MAX TOKEN HOST:PORT TOKEN`
pub record IsPlainAccount (words : List Text) (a : AccountLine) : Type 0 where
  pub limit : Text
  pub max_packet : Text
  pub token : Text
  pub host : Text
  pub out : Text
  pub words_are : words ≡ codes "account" ∷ limit ∷ max_packet ∷ token ∷ host ∷ out ∷ []
  pub is : IsAccount None limit max_packet token host out a

-- `account NAME=alice LIMIT MAX TOKEN HOST:PORT TOKEN`
pub record IsNamedAccount (words : List Text) (a : AccountLine) : Type 0 where
  pub word : Text
  pub name : Text
  pub limit : Text
  pub max_packet : Text
  pub token : Text
  pub host : Text
  pub out : Text
  pub words_are : words ≡ codes "account" ∷ word ∷ limit ∷ max_packet ∷ token ∷ host ∷ out ∷ []
  pub naming : IsNaming word name
  pub is : IsAccount (Some name) limit max_packet token host out a

abbrev pub IsAccountLine : List Text → AccountLine → Type 0
IsAccountLine words a = IsPlainAccount words a ⊎ IsNamedAccount words a

-- `route PREFIX ACCOUNT`, at the rate 1 to 1
pub record IsPlainRoute (words : List Text) (r : Route) : Type 0 where
  pub prefix : Text
  pub account : Text
  pub words_are : words ≡ codes "route" ∷ prefix ∷ account ∷ []
  pub said : IsRoute prefix account (ratio 1 1) r

-- `route PREFIX ACCOUNT NUM DEN`
pub record IsRatedRoute (words : List Text) (r : Route) : Type 0 where
  pub prefix : Text
  pub account : Text
  pub num : Text
  pub den : Text
  pub rate : Ratio
  pub words_are : words ≡ codes "route" ∷ prefix ∷ account ∷ num ∷ den ∷ []
  pub terms : AreTerms num den rate
  pub said : IsRoute prefix account rate r

abbrev pub IsRouteLine : List Text → Route → Type 0
IsRouteLine words r = IsPlainRoute words r ⊎ IsRatedRoute words r

-- the line has words, and says neither an account nor a route
pub record IsBad (words : List Text) : Type 0 where
  pub some_word : words ≢ []
  pub no_account : (x : AccountLine) → ¬ (IsAccountLine words x)
  pub no_route : (r : Route) → ¬ (IsRouteLine words r)

-- accounts xs and routes rs become ys and qs by a line more
abbrev pub Takes : List Text → List AccountLine → List Route → List AccountLine → List Route → Type 0
Takes words xs rs ys qs = ((words ≡ []) × (ys ≡ xs) × (qs ≡ rs))
    ⊎ ((x : AccountLine) × IsAccountLine words x × (ys ≡ xs ++ x ∷ []) × (qs ≡ rs))
    ⊎ ((r : Route) × IsRouteLine words r × (ys ≡ xs) × (qs ≡ rs ++ r ∷ []))

-- the lines say these accounts and these routes, each in their order, and no line is bad
pub data Says : List Text → List AccountLine → List Route → Type 0 where
  ended : Says [] [] []
  blank : (l : Text) (ls : List Text) (xs : List AccountLine) (rs : List Route) → words_of l ≡ [] → Says ls xs rs → Says (l ∷ ls) xs rs
  account : (l : Text) (ls : List Text) (x : AccountLine) (xs : List AccountLine) (rs : List Route) → IsAccountLine (words_of l) x
      → Says ls xs rs → Says (l ∷ ls) (x ∷ xs) rs
  route : (l : Text) (ls : List Text) (xs : List AccountLine) (r : Route) (rs : List Route) → IsRouteLine (words_of l) r
      → Says ls xs rs → Says (l ∷ ls) xs (r ∷ rs)

-- some line of the text is bad
pub record HasBad (text : Text) : Type 0 where
  pub before : List Text
  pub line : Text
  pub after : List Text
  pub lines_are : lines text ≡ before ++ line ∷ after
  pub bad : IsBad (words_of line)

-- the name of the account at place i: that of its line, or i in decimal digits if its line has none
abbrev pub name_of : (i : ℕ) → AccountLine → Text
name_of i a = unwrap_or (said a.name) (decimal i)

-- the names of accounts, the first of which is at place i
unfoldable pub names_from : (i : ℕ) → List AccountLine → List Text
names_from i [] = []
names_from i (a ∷ rest) = name_of i a ∷ names_from (suc i) rest

-- the names of a table's accounts, which are numbered from 0
abbrev pub names_of : List AccountLine → List Text
names_of accounts = names_from 0 accounts

-- no name is there twice
abbrev pub AreDistinct : List Text → Type 0
AreDistinct [] = ⊤
AreDistinct (name ∷ names) = AllByRecursion (λ other. other ≢ name) names × AreDistinct names

-- a name is there twice
pub record StandTwice (names : List Text) : Type 0 where
  pub before : List Text
  pub name : Text
  pub between : List Text
  pub after : List Text
  pub names_are : names ≡ before ++ name ∷ between ++ name ∷ after

-- the text says accounts, two of which have one name
pub record HasSameName (text : Text) : Type 0 where
  pub accounts : List AccountLine
  pub routes : List Route
  pub says : Says (lines text) accounts routes
  pub twice : StandTwice (names_of accounts)
