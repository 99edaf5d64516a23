-- The accounts of a table at their places in the books.
use Rattle.std.specs.Prelude.{◌≡◌, ◌⊎◌, ℕ, List, Bool, length, map, slice_index_or, None, Some, slice_get, if◌then◌else◌}
use Rattle.sqlite_trees.specs.declared.store.Store.{Ghosts}
use Rattle.st_links.specs.declared.booking.Booking.{Booking}
use Rattle.st_hop_books.specs.declared.error.BooksError.TheVariants.{NoMemory}
use Rattle.st_hop_books.specs.Errors.{number}
use Rattle.st_hop_books.specs.Standing.{Kept}
use Rattle.st_hop_books.specs.Commits.{Commits, KeepsFor}
use Rattle.ilpstream_ledger.specs.Names.{Names}

-- books, and by the number of each account of the table its place in them
pub record Placing (S : Type 0) : Type 0 where
  pub books : Kept S
  pub places : List ℕ
  -- whether what proves a claim is kept
  pub keeps : Bool

-- the names at the places are those of the table, in the order of its lines
abbrev pub ArePlaces : (names table : Names) → (places : List ℕ) → Type 0
ArePlaces names table places = map (slice_get names) places ≡ map Some table

-- the place in the books of the table's account of this number; none of the books' if the table has no such account
abbrev pub place_at : {S : Type 0} → Placing S → ℕ → ℕ
place_at p account = slice_index_or p.places account (length p.books.amounts)

-- a booking of accounts of the table, as the books need it
abbrev pub in_books : {S : Type 0} → Placing S → Booking → Booking
in_books p b = record { payer = place_at p b.payer; claim = b.claim; payee = place_at p b.payee; due = b.due; proof = if p.keeps then b.proof else None }

-- the books made these bookings, each at the places of its accounts
pub record CommitsPlaced {S : Type 0} (g : Ghosts S) (old : Placing S) (bookings : List Booking) (new : Placing S) : Type 0 where
  pub booked : Commits g old.books (map (in_books old) bookings) new.books
  pub same : new ≡ record old { books = new.books }

-- the books refused them by this number; or there was no memory to ask the books
abbrev pub KeepsPlaced : {S : Type 0} → Ghosts S → Placing S → List Booking → Placing S → ℕ → Type 0
KeepsPlaced g old bookings new n =
    (KeepsFor g old.books (map (in_books old) bookings) new.books n × (new ≡ record old { books = new.books })) ⊎ ((n ≡ number NoMemory) × (new ≡ old))
