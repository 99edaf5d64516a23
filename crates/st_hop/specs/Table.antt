-- Which tables a hop can be made of, and the hop that is made.
use Rattle.std.specs.Prelude.{ℕ, ◌^◌, ◌&&◌, Bool, true, not, List, [], ◌∷◌, length, replicate, nat_lt, bytes_eq, ◌≡◌, false, Option, Result, MatchBool, MatchOption, IsOkUnless, IsErrOf}
use Rattle.std.specs.List.{list_all, list_any}
use Rattle.st_oer.specs.Address.{is_address}
use Rattle.st_hop.specs.declared.account.Account.{Account}
use Rattle.st_hop.specs.Hop.{Hop, Way}
use Rattle.st_hop.specs.declared.error.HopError.{HopError}
use Rattle.st_hop.specs.declared.error.HopError.TheVariants.{BadTable, NoMemory}

abbrev pub has_prefix : List ℕ → Way → Bool
has_prefix prefix r = bytes_eq prefix r.prefix

-- no prefix occurs twice
abbrev pub is_distinct : List Way → Bool
is_distinct [] = true
is_distinct (r ∷ rs) = not (list_any (has_prefix r.prefix) rs) && is_distinct rs

-- its prefix is an address, and its account is there
abbrev pub is_way : ℕ → Way → Bool
is_way accounts r = is_address r.prefix && nat_lt r.account accounts

abbrev pub is_account : Account → Bool
is_account a = nat_lt a.limit (2 ^ 63)

-- each part is lawful by itself
abbrev pub are_parts : List ℕ → List Account → List Way → Bool
are_parts own accounts routes =
    is_address own
    && list_all is_account accounts
    && list_all (is_way (length accounts)) routes

unfoldable pub is_table : List ℕ → List Account → List Way → Bool
is_table own accounts routes = are_parts own accounts routes && is_distinct routes

-- nothing owed, nothing open
abbrev pub new_hop : List ℕ → List Account → List Way → Hop
new_hop own accounts routes = record {
  own = own;
  accounts = accounts;
  routes = routes;
  claims = replicate (length accounts) 0;
  dues = replicate (length accounts) 0;
  tickets = [];
  next = 0;
}

-- of a lawful table it is made unless memory is refused, and another table is refused as such
abbrev pub RefusesBadTable : {X : Type 0} → Bool → Result X HopError → Type 0
RefusesBadTable is_lawful result = MatchBool is_lawful (IsOkUnless result NoMemory) (IsErrOf result BadTable)

-- there is a value exactly if this holds
abbrev pub IsSomeIff : {X : Type 0} → Bool → Option X → Type 0
IsSomeIff holds made = MatchOption made (holds ≡ false) (λ _. holds ≡ true)
