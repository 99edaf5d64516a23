-- What a call does to books, on the disk too.
use Rattle.std.specs.Prelude.{◌≡◌, ◌⊎◌, ℕ, ◌+◌, ◌^◌, ◌≤◌, List, [], ◌∷◌, ◌++◌, length, slice_get, Some, IsTrue}
use Rattle.sqlite_disk.specs.Disk.{MoreFaults}
use Rattle.sqlite_trees.specs.Tree.{Trees}
use Rattle.sqlite_trees.specs.View.{View, IsClean, IsStorableRow}
use Rattle.sqlite_trees.specs.declared.store.Store.{Ghosts}
use Rattle.st_hop_books.specs.declared.balance.Amounts.{Amounts}
use Rattle.st_hop_books.specs.declared.error.BooksError.{BooksError}
use Rattle.st_links.specs.declared.booking.Booking.{Booking}
use Rattle.st_hop_books.specs.Errors.{number}
use Rattle.st_hop_books.specs.declared.balance.Payment.{Payment}
use Rattle.st_hop_books.specs.Sums.{nothing, amounts_at, booked, IsOfNoAccount, IsAbove, Overflows, ForOne}
use Rattle.st_hop_books.specs.Payments.{changed, entry_text, paid_off, IsShort, IsUncountable}
use Rattle.st_hop_books.specs.Trail.{with_bookings, with_entry}
use Rattle.st_hop_books.specs.Table.{line}
use Rattle.st_hop_books.specs.Standing.{Kept, Sums, AreSums, sums_of, Tells, LeavesOnly, trail_in}
use Rattle.st_hop_books.specs.Reasons.{Excuses, Because, HasBadName, HasBadPayment, HasBadProofs}

abbrev pub after_bookings : {S : Type 0} → Ghosts S → Kept S → List Booking → Sums
after_bookings g k bookings = record {
  starts = k.starts;
  names = k.names;
  amounts = booked k.amounts bookings;
  trail = with_bookings (trail_in (g.view k.store)) k.names bookings;
}

abbrev pub after_name : {S : Type 0} → Ghosts S → Kept S → List ℕ → Sums
after_name g k name = record { starts = k.starts; names = k.names ++ name ∷ []; amounts = k.amounts ++ nothing ∷ []; trail = trail_in (g.view k.store) }

abbrev pub after_start : {S : Type 0} → Ghosts S → Kept S → Sums
after_start g k = record { starts = k.starts + 1; names = k.names; amounts = k.amounts; trail = trail_in (g.view k.store) }

abbrev pub after_payment : {S : Type 0} → Ghosts S → Kept S → Payment → (reference : List ℕ) → Sums
after_payment g k p reference = record {
  starts = k.starts;
  names = k.names;
  amounts = paid_off k.amounts p;
  trail = with_entry (trail_in (g.view k.store)) k.names p (entry_text p.kind p.side reference);
}

-- a crash at any moment since `old` leaves what it could leave then, or the books with the whole change
abbrev pub BeforeOrAfter : {S : Type 0} → Ghosts S → Kept S → Sums → Kept S → Type 0
BeforeOrAfter g old after new = IsClean (g.view new.store) → (db : Trees) → g.recovers new.store db → g.recovers old.store db ⊎ AreSums db after

-- the change is made, and every crash leaves the changed books
pub record Makes {S : Type 0} (g : Ghosts S) (old : Kept S) (after : Sums) (new : Kept S) : Type 0 where
  pub made : Tells new after
  pub trail : IsClean (g.view new.store) → trail_in (g.view new.store) ≡ after.trail
  pub durable : IsClean (g.view new.store) → LeavesOnly g new.store after
  pub any_moment : BeforeOrAfter g old after new

-- nothing is changed; while the store is open, every crash leaves the books as they were
pub record Refuses {S : Type 0} (g : Ghosts S) (old : Kept S) (after : Sums) (new : Kept S) : Type 0 where
  pub same : Tells new (sums_of g old)
  pub as_before : IsTrue (g.view new.store).is_open → LeavesOnly g new.store (sums_of g old)
  pub any_moment : BeforeOrAfter g old after new

abbrev pub Commits : {S : Type 0} → Ghosts S → Kept S → List Booking → Kept S → Type 0
Commits g old bookings new = Makes g old (after_bookings g old bookings) new

-- why bookings, a name, a start or a payment are refused
abbrev pub booking_excuses : View → List (List ℕ) → List Amounts → List Booking → Excuses
booking_excuses v names all bookings = record {
  no_account = ForOne IsOfNoAccount all bookings;
  too_much = ForOne Overflows all bookings;
  too_little = ⊥;
  taken = ⊥;
  bad_name = HasBadName v names ⊎ HasBadProofs v names bookings;
}

abbrev pub name_excuses : View → List (List ℕ) → List ℕ → Excuses
name_excuses v names name = record {
  no_account = ⊥;
  too_much = ⊥;
  too_little = ⊥;
  taken = (at : ℕ) × (slice_get names at ≡ Some name);
  bad_name = ¬ IsStorableRow (v.reals 0) (line (length names + 1) name nothing);
}

abbrev pub start_excuses : ℕ → Excuses
start_excuses starts = record { no_account = ⊥; too_much = 2 ^ 32 ≤ starts + 1; too_little = ⊥; taken = ⊥; bad_name = ⊥ }

abbrev pub payment_excuses : View → List (List ℕ) → List Amounts → Payment → (text : List ℕ) → Excuses
payment_excuses v names all p text = record {
  no_account = length all ≤ p.account;
  too_much = IsAbove (changed p.kind p.side p.amount (amounts_at all p.account)) ⊎ IsUncountable p;
  too_little = IsShort all p;
  taken = ⊥;
  bad_name = HasBadName v names ⊎ HasBadPayment v names p text;
}

-- those of books that are to take these bookings
abbrev pub bookings_excuses : {S : Type 0} → Ghosts S → Kept S → List Booking → Excuses
bookings_excuses g k bookings = booking_excuses (g.view k.store) k.names k.amounts bookings

-- those of books that are to take this payment
abbrev pub entering_excuses : {S : Type 0} → Ghosts S → Kept S → Payment → (reference : List ℕ) → Excuses
entering_excuses g k p reference = payment_excuses (g.view k.store) k.names k.amounts p (entry_text p.kind p.side reference)

abbrev pub IsBecause : {S : Type 0} → Ghosts S → Kept S → Kept S → Excuses → BooksError → Type 0
IsBecause g old new x e = IsClean (g.view new.store) → Because (g.view old.store) (MoreFaults (g.faults old.store) (g.faults new.store)) x e

-- Nothing was changed, and each crash leaves what it could leave before.
pub record Rereads {S : Type 0} (g : Ghosts S) (old new : Kept S) : Type 0 where
  pub same : Tells new (sums_of g old)
  pub trail : IsTrue (g.view new.store).is_open → trail_in (g.view new.store) ≡ trail_in (g.view old.store)
  pub as_before : IsTrue (g.view new.store).is_open → LeavesOnly g new.store (sums_of g old)
  pub outcomes : (db : Trees) → g.recovers new.store db → g.recovers old.store db

-- a refusal of bookings with this number, and its cause
abbrev pub KeepsFor : {S : Type 0} → Ghosts S → Kept S → List Booking → Kept S → ℕ → Type 0
KeepsFor g old bookings new n =
    Refuses g old (after_bookings g old bookings) new
    × ((e : BooksError) × (n ≡ number e) × IsBecause g old new (booking_excuses (g.view old.store) old.names old.amounts bookings) e)
