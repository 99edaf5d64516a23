-- The books as rows of three tables that sqlite3 shows, and of a view.
use Rattle.std.specs.Prelude.{◌≡◌, ◌≢◌, ℕ, suc, pos, true, List, [], ◌∷◌, length, codes, ⊤}
use Rattle.std.specs.List.{AllByRecursion}
use Rattle.sqlite_value.specs.declared.value.Value.TheVariants.{Null, Int, Text}
use Rattle.sqlite_value.specs.Order.{Row, column}
use Rattle.sqlite_trees.specs.Tree.{Trees}
use Rattle.sqlite_trees.specs.Objects.{catalog_tree, version_tree, version_rows, number_in}
use Rattle.sqlite_trees.specs.Sound.{is_sound_list}
use Rattle.st_hop_books.specs.declared.balance.Amounts.{Amounts}
use Rattle.st_hop_books.specs.Payments.{payment_text, ArePayments}
use Rattle.st_hop_books.specs.Fulfillments.{proof_tree, proof_text, AreProofs}
use Rattle.st_hop_books.specs.Trail.{Trail}
use Rattle.st_hop_books.specs.Stamp.{IsStamped}

-- the accounts are tree 0 of the database, and the payments outside Interledger the next
abbrev pub payment_tree : ℕ
payment_tree = 1

abbrev pub table_text : List ℕ
table_text = codes "CREATE TABLE account (id INTEGER PRIMARY KEY, name TEXT NOT NULL, claims INTEGER NOT NULL, dues INTEGER NOT NULL) STRICT"

-- a row of the table: its first value is the id, and the column of the key is NULL
abbrev pub line : (id : ℕ) → List ℕ → Amounts → Row
line id name a = Int (pos id) ∷ Null ∷ Text name ∷ Int (pos a.claims) ∷ Int (pos a.dues) ∷ []

abbrev pub lines_from : ℕ → List (List ℕ) → List Amounts → List Row
lines_from id [] all = []
lines_from id (name ∷ names) [] = []
lines_from id (name ∷ names) (a ∷ all) = line id name a ∷ lines_from (suc id) names all

-- the accounts are numbered from 1
abbrev pub lines : List (List ℕ) → List Amounts → List Row
lines = lines_from 1

-- no name is there twice
abbrev pub AreDistinct : List (List ℕ) → Type 0
AreDistinct [] = ⊤
AreDistinct (name ∷ names) = AllByRecursion (λ other. other ≢ name) names × AreDistinct names

-- a row of the list of objects that is this table's
pub record IsTableRow (number : ℕ) (table text : List ℕ) (row : Row) : Type 0 where
  pub id : column row 0 ≡ Int (pos number)
  pub kind : column row 1 ≡ Text (codes "table")
  pub name : column row 2 ≡ Text table
  pub owner : column row 3 ≡ Text table
  pub text_is : column row 4 ≡ Text text

-- and says that it is a table with no REAL column
pub record IsListed (number : ℕ) (table text : List ℕ) (row : Row) : Type 0 where
  pub is : IsTableRow number table text row
  pub code : number_in (column row 5) ≡ 1
  pub reals : number_in (column row 6) ≡ 0

abbrev pub IsAccountRow : Row → Type 0
IsAccountRow = IsTableRow 1 (codes "account") table_text

abbrev pub IsPaymentRow : Row → Type 0
IsPaymentRow = IsTableRow 2 (codes "payment") payment_text

abbrev pub IsProofRow : Row → Type 0
IsProofRow = IsTableRow 4 (codes "fulfillment") proof_text

-- these objects are the three tables and a view like this
abbrev pub AreObjects : List Row → (IsView : Row → Type 0) → Type 0
AreObjects objects IsView =
    (account : Row) × (payment : Row) × (row : Row) × (proof : Row) × (objects ≡ account ∷ payment ∷ row ∷ proof ∷ [])
    × IsAccountRow account × IsPaymentRow payment × IsProofRow proof × IsView row

-- the file has these three tables, the view of books and no other object
pub record ListsTables (objects : List Row) : Type 0 where
  pub account : Row
  pub payment : Row
  pub stamp : Row
  pub proof : Row
  pub only : objects ≡ account ∷ payment ∷ stamp ∷ proof ∷ []
  pub accounts : IsListed 1 (codes "account") table_text account
  pub payments : IsListed 2 (codes "payment") payment_text payment
  pub stamped : IsStamped stamp
  pub proofs : IsListed 4 (codes "fulfillment") proof_text proof
  pub loads : is_sound_list objects ≡ true

-- the objects of the books of a connector with this address
pub record IsOf (address : List ℕ) (objects : List Row) : Type 0 where
  pub lists : ListsTables objects
  pub own : lists.stamped.is.address ≡ address

-- The database is these books. SQLite's user version counts the starts.
pub record AreBooks (db : Trees) (starts : ℕ) (names : List (List ℕ)) (all : List Amounts) (trail : Trail) : Type 0 where
  pub rows : db 0 ≡ lines names all
  pub named : length names ≡ length all
  pub audit : db payment_tree ≡ trail.paid
  pub payments : ArePayments trail.paid
  pub filed : db proof_tree ≡ trail.proofs
  pub proofs : AreProofs trail.proofs
  pub counted : db version_tree ≡ version_rows starts
  pub objects : ListsTables (db catalog_tree)
