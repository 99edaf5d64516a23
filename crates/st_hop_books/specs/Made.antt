-- How the three tables and the view are made.
use Rattle.std.specs.Prelude.{◌≡◌, ◌≢◌, ℕ, ◌+◌, pos, List, [], ◌∷◌, codes, Result, IsTrue, OnOk}
use Rattle.std.specs.List.{AllByRecursion}
use Rattle.sqlite_value.specs.declared.value.Value.TheVariants.{Int, Text}
use Rattle.sqlite_value.specs.Order.{Row, column}
use Rattle.sqlite_trees.specs.Tree.{put_row}
use Rattle.sqlite_trees.specs.Objects.{catalog_tree, version_tree, version_rows, SetsObject}
use Rattle.sqlite_trees.specs.View.{View, IsClean}
use Rattle.sqlite_trees.specs.declared.store.Shape.{Shape}
use Rattle.sqlite_trees.specs.declared.store.Store.{Ghosts}
use Rattle.sqlite_trees.specs.declared.store.Shape.TheVariants.{Absent, Table}
use Rattle.st_hop_books.specs.declared.error.BooksError.{BooksError}
use Rattle.st_hop_books.specs.Stamp.{stamp_tree}
use Rattle.st_hop_books.specs.Fulfillments.{proof_tree}
use Rattle.st_hop_books.specs.Trail.{no_trail}
use Rattle.st_hop_books.specs.Table.{payment_tree, AreBooks}

-- the row of a table in the list of objects: its number there, type, name, table, text, that it is a table, and no REAL column
abbrev pub table_row : (tree : ℕ) (name text : List ℕ) → Row
table_row tree name text = Int (pos (tree + 1)) ∷ Text (codes "table") ∷ Text name ∷ Text name ∷ Text text ∷ Int (pos 1) ∷ Int (pos 0) ∷ []

-- a store that lists nothing and counts no start
pub record IsUnlaid (v : View) : Type 0 where
  pub numbered : IsTrue v.is_numbered
  pub accounts : v.shape 0 ≡ Absent
  pub payments : v.shape payment_tree ≡ Absent
  pub stamp : v.shape stamp_tree ≡ Absent
  pub proofs : v.shape proof_tree ≡ Absent
  pub lists : v.trees catalog_tree ≡ []
  pub unstarted : v.trees version_tree ≡ version_rows 0

-- no object of this name is listed
abbrev pub ListsNo : (name : List ℕ) → View → Type 0
ListsNo name v = AllByRecursion (λ row. column row 2 ≢ Text name) (v.trees catalog_tree)

-- a success makes this tree, and lists it in this row, with no REAL column
abbrev pub ListsTree : {S T : Type 0} → Ghosts S → (old new : S) → Result T BooksError → (tree : ℕ) → Shape → Row → Type 0
ListsTree g old new result tree shape row =
    OnOk result (IsClean (g.view new) → SetsObject (g.view old) (g.view new) tree shape 0 (put_row row))

-- a clean open store that SQLite can number lists nothing
abbrev pub IsUnlaidIfOpen : View → Type 0
IsUnlaidIfOpen v = IsClean v → IsTrue v.is_open → IsTrue v.is_numbered → IsUnlaid v

-- the store has the tables of new books, which are not committed
pub record Lays (old new : View) : Type 0 where
  pub books : AreBooks new.trees 0 [] [] no_trail
  pub table : new.shape 0 ≡ Table
  pub audit : new.shape payment_tree ≡ Table
  pub filed : new.shape proof_tree ≡ Table
  pub numbered : IsTrue new.is_numbered
