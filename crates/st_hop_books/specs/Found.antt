-- What an open of books finds.
use Rattle.std.specs.Prelude.{◌≡◌, ◌⊎◌, ℕ, List, IsTrue}
use Rattle.sqlite_disk.specs.declared.Disk.{Ghosts}
use Rattle.sqlite_wal.specs.Recovery.{Image}
use Rattle.sqlite_trees.specs.Tree.{Trees}
use Rattle.sqlite_store.specs.declared.store.FileStore.{FileStore}
use Rattle.sqlite_store.specs.FileStore.{state as store_state, view}
use Rattle.sqlite.specs.Held.{Held}
use Rattle.sqlite.specs.Files.{file_state, over_files, IsNothing}
use Rattle.sqlite.specs.Start.{FindsIn}
use Rattle.sqlite_trees.specs.Objects.{catalog_tree}
use Rattle.st_hop_books.specs.Damage.{IsDamaged, IsUnmade}
use Rattle.st_hop_books.specs.Continuing.{IsContinued}
use Rattle.st_hop_books.specs.Table.{ListsTables, IsOf}
use Rattle.st_hop_books.specs.Standing.{Kept, Sums, AreSums, sums_of, Takes}

-- the files had a database of these books, and from now on each crash leaves them
pub record FindsBooks {D : Type 0} {g : Ghosts D} (image : Image) (books : Kept (FileStore D g)) : Type 0 where
  pub opened : Held (FileStore D g)
  pub found : FindsIn image (file_state opened)
  pub takes : Takes over_files (file_state opened).committed.trees books

-- The log is not damaged, and continues the file. The tables were listed, or the books were still to be made; so if a log is there
-- without its database, none are found. The books are of the connector of this address.
pub record FindsWhole {D : Type 0} {g : Ghosts D} (address : List ℕ) (image : Image) (books : Kept (FileStore D g)) : Type 0 where
  pub finds : FindsBooks image books
  pub whole : ¬ IsDamaged image.log
  pub continued : IsContinued image
  pub nothing_lost : ¬ IsUnmade image → (¬ IsNothing image) × ListsTables ((file_state finds.opened).committed.trees catalog_tree)
  pub own : IsOf address ((view books.store).committed catalog_tree)

-- and they were made before: there was a database, and it listed the two tables
pub record FindsOld {D : Type 0} {g : Ghosts D} (image : Image) (books : Kept (FileStore D g)) : Type 0 where
  pub finds : FindsBooks image books
  pub whole : ¬ IsDamaged image.log
  pub continued : IsContinued image
  pub something : ¬ IsNothing image
  pub listed : ListsTables ((file_state finds.opened).committed.trees catalog_tree)

-- If a crash leaves only one database of books, or one of two, the next open of what it left finds it, if it finds any.
abbrev pub NextFinds : {D : Type 0} → Ghosts D → {E : Type 0} → Ghosts E → Type 0
NextFinds {D} g {E} h =
    (it : FileStore D g) (before after : Sums) → IsTrue (view it).is_numbered
    → ((db : Trees) → over_files.recovers it db → AreSums db before ⊎ AreSums db after)
    → (left : Image) → (store_state it).may_leave left → (again : Kept (FileStore E h)) → FindsBooks left again
    → ∥ (sums_of over_files again ≡ before) ⊎ (sums_of over_files again ≡ after) ∥₁
