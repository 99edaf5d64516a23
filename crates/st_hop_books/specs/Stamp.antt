-- What books say of themselves: a view that sqlite3 shows. Its text is on the first page of the file.
use Rattle.std.specs.Prelude.{◌≡◌, ℕ, pos, List, [], ◌∷◌, ◌++◌, ◌+◌, codes, Ok}
use Rattle.sqlite_value.specs.declared.value.Value.TheVariants.{Int, Text}
use Rattle.sqlite_value.specs.Order.{Row, column}
use Rattle.sqlite_trees.specs.Objects.{number_in}
use Rattle.sqlite_resolve.specs.Compile.{view_defined_by}

-- the view comes after the two tables
abbrev pub stamp_tree : ℕ
stamp_tree = 2

-- the version of the tables, the identity that the books were made with, and the address of their connector
abbrev pub stamp_text : (identity address : List ℕ) → List ℕ
stamp_text identity address =
    codes "CREATE VIEW books AS SELECT 2 AS schema, '" ++ (identity ++ (codes "' AS identity, '" ++ (address ++ codes "' AS address")))

-- the text says this address, and SQLite reads it as that of the view `books`
pub record Stamps (address text : List ℕ) : Type 0 where
  pub identity : List ℕ
  pub is : text ≡ stamp_text identity address
  pub defined : view_defined_by text ≡ Ok (codes "books")

abbrev pub IsStampText : List ℕ → Type 0
IsStampText text = (address : List ℕ) × Stamps address text

-- a row of the list of objects with the number and the names of this view
abbrev pub IsNamedRow : Row → Type 0
IsNamedRow row =
    (column row 0 ≡ Int (pos 3)) × (column row 1 ≡ Text (codes "view"))
    × (column row 2 ≡ Text (codes "books")) × (column row 3 ≡ Text (codes "books"))

-- a row of the list of objects that is this view's
pub record IsStampRow (row : Row) : Type 0 where
  pub address : List ℕ
  pub text : List ℕ
  pub stamps : Stamps address text
  pub id : column row 0 ≡ Int (pos 3)
  pub kind : column row 1 ≡ Text (codes "view")
  pub name : column row 2 ≡ Text (codes "books")
  pub owner : column row 3 ≡ Text (codes "books")
  pub text_is : column row 4 ≡ Text text

-- and says that it has no pages and no REAL column
pub record IsStamped (row : Row) : Type 0 where
  pub is : IsStampRow row
  pub code : number_in (column row 5) ≡ 3
  pub reals : number_in (column row 6) ≡ 0

-- the view as it is made
abbrev pub stamp_row : (text : List ℕ) → Row
stamp_row text =
    Int (pos (stamp_tree + 1)) ∷ Text (codes "view") ∷ Text (codes "books") ∷ Text (codes "books") ∷ Text text ∷ Int (pos 3) ∷ Int (pos 0) ∷ []
