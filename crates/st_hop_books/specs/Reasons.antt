-- Why books refuse a call.
use Rattle.std.specs.Prelude.{◌≡◌, ◌⊎◌, ℕ, ◌+◌, List, slice_get, Some, Result, Err, IsTrue, IsOk, IfErr, ⊤}
use Rattle.sqlite_disk.specs.Disk.{MoreFaults}
use Rattle.sqlite_value.specs.Order.{Row}
use Rattle.sqlite_trees.specs.View.{View, IsClean, IsStorableRow}
use Rattle.sqlite_trees.specs.declared.store.Store.{Ghosts}
use Rattle.st_hop_books.specs.declared.balance.Amounts.{Amounts}
use Rattle.st_hop_books.specs.declared.error.BooksError.{BooksError}
use Rattle.st_hop_books.specs.declared.error.BooksError.TheVariants.{NoBooks, Taken, Device, Full, Damaged, Shut, NoAccount, TooMuch, NameTaken, BadName, NoMemory, TooLittle}
use Rattle.st_hop_books.specs.declared.balance.Payment.{Payment}
use Rattle.st_hop_books.specs.Sums.{IsAbove, IsOfNoAccount, Overflows}
use Rattle.st_hop_books.specs.Payments.{payment_line, name_at}
use Rattle.st_links.specs.declared.booking.Booking.{Booking}
use Rattle.st_links.specs.declared.booking.Proof.{Proof}
use Rattle.st_hop_books.specs.Fulfillments.{proof_row, proof_tree}
use Rattle.st_hop_books.specs.Table.{line, payment_tree}

-- what the bookings, the name or the payment of a call have to be for a refusal of them
pub record Excuses : Type 1 where
  pub no_account : Type 0
  pub too_much : Type 0
  pub too_little : Type 0
  pub taken : Type 0
  pub bad_name : Type 0

-- Memory needs no reason. A fault is one of the disk, or a limit of SQLite's format that was met. The books are shut by an
-- earlier failure. Nothing else refuses but what the call itself gives.
abbrev pub Because : View → (fault : Type 0) → Excuses → BooksError → Type 0
Because old fault x NoMemory = ⊤
Because old fault x Device = fault
Because old fault x Full = fault
Because old fault x Damaged = fault
Because old fault x Shut = IsTrue old.is_broken
Because old fault x NoAccount = x.no_account
Because old fault x TooMuch = x.too_much
Because old fault x TooLittle = x.too_little
Because old fault x NameTaken = x.taken
Because old fault x BadName = x.bad_name
Because old fault x NoBooks = ⊥
Because old fault x Taken = ⊥

abbrev pub excuses : (no_account too_much taken bad_name : Type 0) → Excuses
excuses a b c d = record { no_account = a; too_much = b; too_little = ⊥; taken = c; bad_name = d }

abbrev pub no_excuse : Excuses
no_excuse = excuses ⊥ ⊥ ⊥ ⊥

-- SQLite cannot store the line of one of these names
abbrev pub HasBadName : View → List (List ℕ) → Type 0
HasBadName v names =
    (at : ℕ) × (name : List ℕ) × (a : Amounts) × (slice_get names at ≡ Some name) × (¬ IsStorableRow (v.reals 0) (line (at + 1) name a))

-- SQLite cannot store the line of this payment, whatever its number and moment
abbrev pub HasBadPayment : View → List (List ℕ) → Payment → (text : List ℕ) → Type 0
HasBadPayment v names p text =
    (id : ℕ) × (moment : ℕ) × (¬ IsStorableRow (v.reals payment_tree) (payment_line id (name_at names p.account) text p.amount moment))

-- SQLite cannot store the proof of this booking's claim, whatever its id
abbrev pub HasBadProof : View → List (List ℕ) → Booking → Type 0
HasBadProof v names b = (id : ℕ) × (p : Proof) × (b.proof ≡ Some p) × (¬ IsStorableRow (v.reals proof_tree) (proof_row id names b p))

-- that of one of these
abbrev pub HasBadProofs : View → List (List ℕ) → List Booking → Type 0
HasBadProofs v names bookings = (n : ℕ) × (b : Booking) × (slice_get bookings n ≡ Some b) × HasBadProof v names b

-- a call over a store whose disk was not rewritten by others fails only for these excuses, for a fault, or out of memory
abbrev pub FailsOnlyFor : {S T : Type 0} → Ghosts S → (old new : S) → Result T BooksError → Excuses → Type 0
FailsOnlyFor g old new result x =
    IsClean (g.view new) → IfErr result (Because (g.view old) (MoreFaults (g.faults old) (g.faults new)) x)

-- what was entered is refused with the error of its entry; if all of it was entered, only a fault refuses it
abbrev pub FailsAsEntered : {S T : Type 0} → Ghosts S → (old new : S) → (entered result : Result T BooksError) → Type 0
FailsAsEntered g old new entered result = IsClean (g.view new) → IfErr result (λ e.
    (entered ≡ Err e)
    ⊎ (IsOk entered × Because (g.view old) (MoreFaults (g.faults old) (g.faults new)) no_excuse e))

-- why a row is refused: a count in it is too much, or SQLite cannot store it
abbrev pub row_excuses : (too_much : Type 0) → View → (tree : ℕ) → Row → Excuses
row_excuses too_much v tree row = excuses ⊥ too_much ⊥ (¬ IsStorableRow (v.reals tree) row)

-- why the line of one of these accounts is refused with these amounts
abbrev pub line_excuses : View → List (List ℕ) → Amounts → Excuses
line_excuses v names a = excuses ⊥ (IsAbove a) ⊥ (HasBadName v names)

-- why a booking is refused in the table of accounts
abbrev pub sum_excuses : View → List (List ℕ) → List Amounts → Booking → Excuses
sum_excuses v names all b = excuses (IsOfNoAccount all b) (Overflows all b) ⊥ (HasBadName v names)

-- and in that of fulfillments too
abbrev pub entry_excuses : View → List (List ℕ) → List Amounts → Booking → Excuses
entry_excuses v names all b =
    excuses (IsOfNoAccount all b) (Overflows all b) ⊥ (HasBadName v names ⊎ HasBadProof v names b)
