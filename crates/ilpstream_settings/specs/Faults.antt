-- Which rule a line of a connector's table breaks.
use Rattle.std.specs.Prelude.{◌≡◌, ◌≢◌, ◌⊎◌, ℕ, suc, nat_eq, false, List, [], ◌∷◌, ◌++◌, length, take, codes}
use Rattle.std.specs.List.{AllByRecursion, count_by}
use Rattle.std.specs.Str.{IsUtf8, IsValidUpTo}
use Rattle.std.specs.Str.Lines.{lines}
use Rattle.st_oer.specs.Ratios.{Ratio}
use Rattle.st_http.specs.Texts.{is_field_text}
use Rattle.st_hop.specs.declared.route.Route.{Route}
use Rattle.ilpstream_settings.specs.declared.fault.LineFault.{LineFault}
use Rattle.ilpstream_settings.specs.declared.fault.LineFault.TheVariants as fault
use Rattle.ilpstream_settings.specs.declared.line.AccountLine.{AccountLine}
use Rattle.ilpstream_settings.specs.Numbers.{AreTerms, IsHostPort, IsNumber}
use Rattle.ilpstream_settings.specs.Settings.{most_money}
use Rattle.ilpstream_settings.specs.Table.{IsAccountLine, IsBad, IsNaming, IsRouteLine, Text, words_of}

-- the text does not write a number up to 2^63 - 1
abbrev pub IsNoNumber : Text → Type 0
IsNoNumber text = (n : ℕ) → ¬ (IsNumber most_money text n)

-- nothing is sent to the account
abbrev pub IsNowhere : Text → Text → Type 0
IsNowhere host out = (host ≡ codes "-") × (out ≡ codes "-")

-- the rule that the five words of an account break, by the word that breaks it
abbrev pub BreaksTerms : (limit max_packet token host out : Text) → LineFault → Type 0
BreaksTerms limit max_packet token host out fault.NotUtf8 = ⊥
BreaksTerms limit max_packet token host out fault.Kind = ⊥
BreaksTerms limit max_packet token host out fault.AccountWords = ⊥
BreaksTerms limit max_packet token host out fault.Name = ⊥
BreaksTerms limit max_packet token host out fault.Limit = IsNoNumber limit
BreaksTerms limit max_packet token host out fault.MaxPacket = IsNoNumber max_packet
BreaksTerms limit max_packet token host out fault.Token = is_field_text token ≡ false
BreaksTerms limit max_packet token host out fault.HostPort = ¬ (IsHostPort host) × ¬ (IsNowhere host out)
BreaksTerms limit max_packet token host out fault.TokenThere = is_field_text out ≡ false
BreaksTerms limit max_packet token host out fault.RouteWords = ⊥
BreaksTerms limit max_packet token host out fault.RouteAccount = ⊥
BreaksTerms limit max_packet token host out fault.Rate = ⊥

-- the rule that the number, NUM and DEN of a route break
abbrev pub BreaksRated : (account num den : Text) → LineFault → Type 0
BreaksRated account num den fault.NotUtf8 = ⊥
BreaksRated account num den fault.Kind = ⊥
BreaksRated account num den fault.AccountWords = ⊥
BreaksRated account num den fault.Name = ⊥
BreaksRated account num den fault.Limit = ⊥
BreaksRated account num den fault.MaxPacket = ⊥
BreaksRated account num den fault.Token = ⊥
BreaksRated account num den fault.HostPort = ⊥
BreaksRated account num den fault.TokenThere = ⊥
BreaksRated account num den fault.RouteWords = ⊥
BreaksRated account num den fault.RouteAccount = IsNoNumber account
BreaksRated account num den fault.Rate = (r : Ratio) → ¬ (AreTerms num den r)

-- a line of these fields breaks this rule
pub data Breaks : List Text → LineFault → Type 0 where
  kind : (word : Text) (words : List Text) → word ≢ codes "account" → word ≢ codes "route" → Breaks (word ∷ words) fault.Kind
  account_words : (words : List Text) → length words ≢ 5 → length words ≢ 6 → Breaks (codes "account" ∷ words) fault.AccountWords
  plain : (limit max_packet token host out : Text) (f : LineFault) → BreaksTerms limit max_packet token host out f
      → Breaks (codes "account" ∷ limit ∷ max_packet ∷ token ∷ host ∷ out ∷ []) f
  name : (word limit max_packet token host out : Text) → ((name : Text) → ¬ (IsNaming word name))
      → Breaks (codes "account" ∷ word ∷ limit ∷ max_packet ∷ token ∷ host ∷ out ∷ []) fault.Name
  named : (word limit max_packet token host out : Text) (f : LineFault) → BreaksTerms limit max_packet token host out f
      → Breaks (codes "account" ∷ word ∷ limit ∷ max_packet ∷ token ∷ host ∷ out ∷ []) f
  route_words : (words : List Text) → length words ≢ 2 → length words ≢ 4 → Breaks (codes "route" ∷ words) fault.RouteWords
  route_account : (prefix account : Text) → IsNoNumber account → Breaks (codes "route" ∷ prefix ∷ account ∷ []) fault.RouteAccount
  rated : (prefix account num den : Text) (f : LineFault) → BreaksRated account num den f → Breaks (codes "route" ∷ prefix ∷ account ∷ num ∷ den ∷ []) f

-- the line is empty, or says an account or a route
abbrev pub IsGood : List Text → Type 0
IsGood words = (words ≡ []) ⊎ ((x : AccountLine) × IsAccountLine words x) ⊎ ((r : Route) × IsRouteLine words r)

-- the first bad line is the one of this number, from 1, and it breaks this rule
pub record IsFirstFault (lines : List Text) (number : ℕ) (f : LineFault) : Type 0 where
  pub before : List Text
  pub line : Text
  pub after : List Text
  pub lines_are : lines ≡ before ++ line ∷ after
  pub number_is : number ≡ suc (length before)
  pub good : AllByRecursion (λ l. IsGood (words_of l)) before
  pub bad : IsBad (words_of line)
  pub breaks : Breaks (words_of line) f

-- how many lines end in these bytes
abbrev pub line_ends : List ℕ → ℕ
line_ends bytes = count_by (λ b. nat_eq b 10) bytes

-- the bytes are not UTF-8, and the first that spoils it is in the line of this number, from 1
abbrev pub IsSpoilt : List ℕ → ℕ → Type 0
IsSpoilt bytes number = (k : ℕ) × IsValidUpTo bytes k × (number ≡ suc (line_ends (take k bytes)))

-- a table of these bytes is bad first at the line of this number, which breaks this rule
abbrev pub IsTableFault : List ℕ → ℕ → LineFault → Type 0
IsTableFault bytes number f = ((f ≡ fault.NotUtf8) × IsSpoilt bytes number) ⊎ (IsUtf8 bytes × IsFirstFault (lines bytes) number f)

-- the bytes are a text, no line of which is bad
abbrev pub HasGoodLines : List ℕ → Type 0
HasGoodLines bytes = IsUtf8 bytes × AllByRecursion (λ l. IsGood (words_of l)) (lines bytes)
