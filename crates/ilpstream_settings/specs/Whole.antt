-- Which rule of the whole table a line of it breaks.
use Rattle.std.specs.Prelude.{◌≡◌, ◌≤◌, ◌⊎◌, ◌&&◌, ℕ, suc, Bool, true, false, List, [], ◌∷◌, ◌++◌, String, length, map, bytes_eq, string_bytes}
use Rattle.std.specs.List.{AllByRecursion, list_all, list_any}
use Rattle.st_oer.specs.Address.{is_address}
use Rattle.st_hop.specs.declared.route.Route.{Route}
use Rattle.st_hop.specs.Hop.{Way}
use Rattle.st_hop.specs.Seen.{way_seen}
use Rattle.st_hop.specs.Table.{is_distinct, is_table, is_way}
use Rattle.ilpstream_settings.specs.declared.line.AccountLine.{AccountLine}
use Rattle.ilpstream_settings.specs.declared.whole.PlacedRoute.{PlacedRoute}
use Rattle.ilpstream_settings.specs.declared.whole.Said.{Said}
use Rattle.ilpstream_settings.specs.declared.whole.Said.TheVariants as said
use Rattle.ilpstream_settings.specs.declared.whole.Step.{Step}
use Rattle.ilpstream_settings.specs.declared.whole.Step.TheVariants as step
use Rattle.ilpstream_settings.specs.declared.whole.WholeRule.{WholeRule}
use Rattle.ilpstream_settings.specs.declared.whole.WholeRule.TheVariants as rule
use Rattle.ilpstream_settings.specs.Faults.{IsGood}
use Rattle.ilpstream_settings.specs.Table.{AreDistinct, IsAccountLine, IsBad, IsRouteLine, Says, Text, name_of, names_of, words_of}

-- no line is bad
abbrev pub AreGood : List Text → Type 0
AreGood lines = AllByRecursion (λ l. IsGood (words_of l)) lines

-- the text is one of these
abbrev pub is_one_of : List Text → Text → Bool
is_one_of texts text = list_any (bytes_eq text) texts

-- the prefixes of routes
abbrev pub prefixes_of : List Route → List Text
prefixes_of routes = map (λ r. r.prefix.now) routes

-- the line of this number, from 1, has these fields, and the lines before it say these accounts and these routes
pub record Stands (lines : List Text) (number : ℕ) (words : List Text) (accounts : List AccountLine) (routes : List Route) : Type 0 where
  pub before : List Text
  pub line : Text
  pub after : List Text
  pub lines_are : lines ≡ before ++ line ∷ after
  pub number_is : number ≡ suc (length before)
  pub words_are : words ≡ words_of line
  pub says : Says before accounts routes

-- the line of this number says the first account whose name an account before it has
pub record IsSameName (lines : List Text) (number : ℕ) : Type 0 where
  pub accounts : List AccountLine
  pub routes : List Route
  pub words : List Text
  pub account : AccountLine
  pub stands : Stands lines number words accounts routes
  pub says : IsAccountLine words account
  pub distinct : AreDistinct (names_of accounts)
  pub same : is_one_of (names_of accounts) (name_of (length accounts) account) ≡ true

-- each prefix is an address and is there once, and each account is there, of `count` accounts
abbrev pub are_routes : ℕ → List Route → Bool
are_routes count routes = list_all (is_way count) (map way_seen routes) && is_distinct (map way_seen routes)

-- a route after others of these prefixes, in a table of `count` accounts, breaks this rule
abbrev pub BreaksWhole : ℕ → List Text → Route → WholeRule → Type 0
BreaksWhole count prefixes r rule.SameName = ⊥
BreaksWhole count prefixes r rule.NoAddress = is_address r.prefix.now ≡ false
BreaksWhole count prefixes r rule.NoAccount = count ≤ r.account
BreaksWhole count prefixes r rule.SamePrefix = is_one_of prefixes r.prefix.now ≡ true

-- no line is bad and no name is there twice, and the line of this number says the first route that breaks a rule, this one
pub record IsBadRoute (lines : List Text) (number : ℕ) (r : WholeRule) : Type 0 where
  pub accounts : List AccountLine
  pub routes : List Route
  pub all : Says lines accounts routes
  pub distinct : AreDistinct (names_of accounts)
  pub accounts_before : List AccountLine
  pub before : List Route
  pub words : List Text
  pub route : Route
  pub stands : Stands lines number words accounts_before before
  pub says : IsRouteLine words route
  pub good : are_routes (length accounts) before ≡ true
  pub breaks : BreaksWhole (length accounts) (prefixes_of before) route r

-- the line of this number is the first that breaks a rule of the whole table, this one: of the names first, and then of the routes
abbrev pub IsWholeFault : List Text → ℕ → WholeRule → Type 0
IsWholeFault lines number r = ((r ≡ rule.SameName) × IsSameName lines number) ⊎ IsBadRoute lines number r

-- no name is there twice, and a hop of any address can be made of the accounts and the routes
pub record IsWhole (lines : List Text) : Type 0 where
  pub accounts : List AccountLine
  pub routes : List Route
  pub says : Says lines accounts routes
  pub distinct : AreDistinct (names_of accounts)
  pub table : (own : Text) → is_address own ≡ true → is_table own (map (λ x. x.terms) accounts) (map way_seen routes) ≡ true

-- what a line of these fields says
abbrev pub IsSaid : List Text → Said → Type 0
IsSaid words said.Nothing = words ≡ []
IsSaid words (said.Account x) = IsAccountLine words x
IsSaid words (said.Route r) = IsRouteLine words r
IsSaid words said.Bad = IsBad words

-- the routes without the numbers of their lines
abbrev pub routes_of : List PlacedRoute → List Route
routes_of placed = map (λ p. p.route) placed

-- a line of this number and these fields adds to names and routes: nothing, an account with a new name, or a route
abbrev pub Adds : {X : Type 0} → List Text → ℕ → (names : List (String X)) → List PlacedRoute → (more : List (String X)) → List PlacedRoute → Type 0
Adds words number names placed more new = ((words ≡ []) × (more ≡ names) × (new ≡ placed))
    ⊎ ((x : AccountLine) × IsAccountLine words x × (is_one_of (map string_bytes names) (name_of (length names) x) ≡ false)
    × (map string_bytes more ≡ map string_bytes names ++ name_of (length names) x ∷ []) × (new ≡ placed))
    ⊎ ((p : PlacedRoute) × (p.line ≡ number) × IsRouteLine words p.route × (more ≡ names) × (new ≡ placed ++ p ∷ []))

-- what a line of this number and these fields does to names and routes
abbrev pub IsStep : {X : Type 0} → List Text → ℕ → (names : List (String X)) → List PlacedRoute → (more : List (String X)) → List PlacedRoute → Step → Type 0
IsStep words number names placed more new step.Added = Adds words number names placed more new
IsStep words number names placed more new step.SameName =
    (x : AccountLine) × IsAccountLine words x × (is_one_of (map string_bytes names) (name_of (length names) x) ≡ true)
IsStep words number names placed more new step.Bad = IsBad words

-- the first of these routes that breaks a rule, in a table of `count` accounts, is the one of the line of this number
pub record IsFirstRoute (count : ℕ) (placed : List PlacedRoute) (number : ℕ) (r : WholeRule) : Type 0 where
  pub before : List PlacedRoute
  pub route : PlacedRoute
  pub after : List PlacedRoute
  pub placed_are : placed ≡ before ++ route ∷ after
  pub number_is : number ≡ route.line
  pub good : are_routes count (routes_of before) ≡ true
  pub breaks : BreaksWhole count (prefixes_of (routes_of before)) route.route r
