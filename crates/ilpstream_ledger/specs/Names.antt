-- What accounts owe and are owed, by their names: the order of lines in the table, or of accounts in the books, has no meaning.
use Rattle.std.specs.Prelude.{◌≡◌, ◌≢◌, ℕ, List, [], ◌∷◌, map, slice_get, Some, bytes_eq, if◌then◌else◌}
use Rattle.std.specs.List.{AllByRecursion}
use Rattle.st_hop_books.specs.declared.balance.Amounts.{Amounts}
use Rattle.st_hop_books.specs.Sums.{nothing, amounts_at}

abbrev pub Names : Type 0
Names = List (List ℕ)

-- the amounts of the account of this name: nothing if the books have none
unfoldable pub amounts_of : Names → List Amounts → List ℕ → Amounts
amounts_of [] all name = nothing
amounts_of (n ∷ names) [] name = nothing
amounts_of (n ∷ names) (a ∷ all) name = if bytes_eq n name then a else amounts_of names all name

-- what the accounts of a table owe and are owed, in the order of its lines
abbrev pub claims_of : Names → List Amounts → (table : Names) → List ℕ
claims_of names all table = map (λ name. (amounts_of names all name).claims) table

abbrev pub dues_of : Names → List Amounts → (table : Names) → List ℕ
dues_of names all table = map (λ name. (amounts_of names all name).dues) table

-- none of these is the name
abbrev pub IsNone : Names → List ℕ → Type 0
IsNone table name = AllByRecursion (λ other. other ≢ name) table

-- the books have an account that the table lacks, and something is owed there
pub record HasUnlisted (names : Names) (all : List Amounts) (table : Names) : Type 0 where
  pub at : ℕ
  pub name : List ℕ
  pub here : slice_get names at ≡ Some name
  pub owed : amounts_at all at ≢ nothing
  pub unlisted : IsNone table name

-- each account at which something is owed is one of the table's
abbrev pub AreListed : Names → List Amounts → (table : Names) → Type 0
AreListed names all table =
    (at : ℕ) (name : List ℕ) → slice_get names at ≡ Some name → amounts_at all at ≢ nothing → (line : ℕ) × (slice_get table line ≡ Some name)
