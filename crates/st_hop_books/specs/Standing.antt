-- What a store has of books, and what steps of a transaction do to it.
use Rattle.std.specs.Prelude.{◌≡◌, ◌⊎◌, ℕ, true, false, List, length, Result, IsTrue, IsOk, OnOk}
use Rattle.sqlite_value.specs.Order.{Row}
use Rattle.sqlite_trees.specs.Tree.{Trees, put_row}
use Rattle.sqlite_trees.specs.Objects.{catalog_tree, version_tree, version_rows}
use Rattle.sqlite_trees.specs.Sound.{is_sound_list}
use Rattle.sqlite_trees.specs.View.{View, IsClean, KeepsSchema, OnlyWrites, SetsTree}
use Rattle.sqlite_trees.specs.declared.store.Store.{Ghosts}
use Rattle.sqlite_trees.specs.declared.store.Shape.TheVariants.{Table}
use Rattle.st_hop_books.specs.declared.balance.Amounts.{Amounts}
use Rattle.st_hop_books.specs.declared.balance.Payment.{Payment}
use Rattle.st_hop_books.specs.declared.balance.Tally.{Tally}
use Rattle.st_hop_books.specs.declared.error.BooksError.{BooksError}
use Rattle.st_links.specs.declared.booking.Booking.{Booking}
use Rattle.st_hop_books.specs.Fulfillments.{proof_tree, last_id}
use Rattle.st_hop_books.specs.Trail.{Trail, tally_of, with_bookings, with_entry}
use Rattle.st_hop_books.specs.Table.{AreBooks, lines, payment_tree}

-- the payments and the fulfillments of a database
abbrev pub trail_of : Trees → Trail
trail_of db = record { paid = db payment_tree; proofs = db proof_tree }

-- those of the last commit
abbrev pub trail_in : View → Trail
trail_in v = trail_of v.committed

-- the last commit is these books, and nothing else is written
pub record Stands (v : View) (starts : ℕ) (names : List (List ℕ)) (all : List Amounts) (trail : Trail) : Type 0 where
  pub sound : v.is_broken ≡ false
  pub settled : v.trees ≡ v.committed
  pub books : AreBooks v.committed starts names all trail

-- the tables are there
pub record IsLaid (v : View) : Type 0 where
  pub table : v.shape 0 ≡ Table
  pub audit : v.shape payment_tree ≡ Table
  pub filed : v.shape proof_tree ≡ Table
  pub kept : v.shape ≡ v.committed_shape
  pub numbered : IsTrue v.is_numbered

-- and while the store is open, the payments and the fulfillments have this tally: the number of payments, the moment of the last one, and
-- the id of the last fulfillment
abbrev pub Holds : View → (starts : ℕ) → List (List ℕ) → List Amounts → Trail → Tally → Type 0
Holds v starts names all trail tally = (IsClean v → IsLaid v) × (IsTrue v.is_open → Stands v starts names all trail × (tally_of trail ≡ tally))

-- a store between transactions, with the tables, and with a list of objects that SQLite accepts
pub record IsReady (v : View) : Type 0 where
  pub sound : v.is_broken ≡ false
  pub laid : IsLaid v
  pub settled : v.trees ≡ v.committed
  pub loads : is_sound_list (v.committed catalog_tree) ≡ true

-- a store with the tables is ready, if it is clean and open
abbrev pub IsReadyOnceLaid : View → Type 0
IsReadyOnceLaid v =
    IsClean v → IsTrue v.is_open → v.shape 0 ≡ Table → v.shape payment_tree ≡ Table → v.shape proof_tree ≡ Table → IsReady v

-- only the cursors differ
abbrev pub ReadsOnly : View → View → Type 0
ReadsOnly old new = new ≡ record old { cursors = new.cursors }

-- the table of accounts changes from these lines to those
pub record Draws (old new : View) (names : List (List ℕ)) (before after : List Amounts) : Type 0 where
  pub frame : OnlyWrites old new
  pub books : (starts : ℕ) (trail : Trail) → AreBooks old.trees starts names before trail → AreBooks new.trees starts names after trail

-- the table of accounts changes from these lines to those, and the proofs of these bookings are added after those that are there
pub record Enters (old new : View) (names : List (List ℕ)) (before after : List Amounts) (last : ℕ) (bookings : List Booking) : Type 0 where
  pub frame : OnlyWrites old new
  pub books : (starts : ℕ) (trail : Trail) → last_id trail.proofs ≡ last → AreBooks old.trees starts names before trail
      → AreBooks new.trees starts names after (with_bookings trail names bookings)

-- the payments with this tally get this one more, in the tables of these accounts
abbrev pub AddsEntry : (old new : View) → List (List ℕ) → (before after : List Amounts) → Tally → Payment → (text : List ℕ) → Type 0
AddsEntry old new names before after tally p text =
    (starts : ℕ) (trail : Trail) → tally_of trail ≡ tally → AreBooks old.trees starts names before trail
    → AreBooks new.trees starts names after (with_entry trail names p text)

-- a success puts this row into the tree
abbrev pub PutsRow : {S T : Type 0} → Ghosts S → (old new : S) → Result T BooksError → (tree : ℕ) → Row → Type 0
PutsRow g old new result tree row = OnOk result (IsClean (g.view new) → SetsTree (g.view old) (g.view new) tree (put_row row))

-- the last commit stays
pub record Keeps (old new : View) : Type 0 where
  pub schema : KeepsSchema old new
  pub was_open : IsTrue new.is_open → IsTrue old.is_open
  pub committed : IsTrue new.is_open → new.committed ≡ old.committed

-- what the books of a database are
pub record Sums : Type 0 where
  pub starts : ℕ
  pub names : List (List ℕ)
  pub amounts : List Amounts
  pub trail : Trail

abbrev pub AreSums : Trees → Sums → Type 0
AreSums db s = AreBooks db s.starts s.names s.amounts s.trail

-- each database that a crash may leave now is one that it could leave before, or these books
abbrev pub RecoversTo : {S : Type 0} → Ghosts S → (old new : S) → (starts : ℕ) → List (List ℕ) → List Amounts → Trail → Type 0
RecoversTo g old new starts names all trail =
    IsClean (g.view new) → (db : Trees) → g.recovers new db → g.recovers old db ⊎ AreBooks db starts names all trail

-- and it is one that it could leave before, or the tables with all that was entered
abbrev pub RecoversToEntered : {S T : Type 0} → Ghosts S → (old new : S) → (entered : Result T BooksError) → Type 0
RecoversToEntered g old new entered = IsClean (g.view new) → (db : Trees) → g.recovers new db
    → (IsOk entered × ((g.view old).is_broken ≡ false) × (db ≡ (g.view old).trees)) ⊎ g.recovers old db

-- each database that a crash may leave is these books
abbrev pub LeavesOnly : {S : Type 0} → Ghosts S → S → Sums → Type 0
LeavesOnly g s sums = (db : Trees) → g.recovers s db → AreSums db sums

-- The books, to a contract.
pub record Kept (S : Type 0) : Type 0 where
  pub store : S
  pub starts : ℕ
  pub names : List (List ℕ)
  pub amounts : List Amounts

-- with the payments and the fulfillments, which no memory keeps: they are those of the last commit
abbrev pub sums_of : {S : Type 0} → Ghosts S → Kept S → Sums
sums_of g k = record { starts = k.starts; names = k.names; amounts = k.amounts; trail = trail_in (g.view k.store) }

-- the books in memory are these sums
abbrev pub Tells : {S : Type 0} → Kept S → Sums → Type 0
Tells k s = (k.starts ≡ s.starts) × (k.names ≡ s.names) × (k.amounts ≡ s.amounts)

-- the store is open, and each crash leaves these books
pub record Remains {S : Type 0} (g : Ghosts S) (books : Kept S) : Type 0 where
  pub is_open : IsTrue (g.view books.store).is_open
  pub numbered : IsTrue (g.view books.store).is_numbered
  pub leaves : LeavesOnly g books.store (sums_of g books)

-- a database was these books, and the store remains so
pub record Takes {S : Type 0} (g : Ghosts S) (db : Trees) (books : Kept S) : Type 0 where
  pub rows : db 0 ≡ lines books.names books.amounts
  pub named : length books.names ≡ length books.amounts
  pub audit : trail_of db ≡ trail_in (g.view books.store)
  pub starts : db version_tree ≡ version_rows books.starts
  pub remains : Remains g books
