-- What a connector continues with that is started with books and a table.
use Rattle.std.specs.Prelude.{◌≡◌, ◌⊎◌, ℕ, ◌+◌, ◌-◌, ◌*◌, ◌^◌, ◌<◌, ◌≤◌, List, ◌++◌, length, replicate, slice_index, slice_index_or, sum, ⊤}
use Rattle.st_hop.specs.declared.account.Account.{Account}
use Rattle.st_hop.specs.Hop.{no_account}
use Rattle.st_hop_books.specs.declared.error.BooksError.{BooksError}
use Rattle.st_hop_books.specs.declared.error.BooksError.TheVariants as books
use Rattle.st_hop_books.specs.Sums.{nothing}
use Rattle.st_hop_books.specs.Standing.{Kept}
use Rattle.ilpstream_ledger.specs.declared.error.LedgerError.{LedgerError}
use Rattle.ilpstream_ledger.specs.declared.error.LedgerError.TheVariants.{Unlisted, BelowOwed, Reused, Books, NoMemory}
use Rattle.ilpstream_ledger.specs.Names.{Names, HasUnlisted, claims_of, dues_of}

-- the number of the first ticket of the life that is counted by this start: no two lives share a number, as long as none
-- gives out 2^44 of them
abbrev pub first_of : (starts : ℕ) → ℕ
first_of starts = 2 ^ 44 * starts

-- the greatest number of starts whose first numbers are below 2^64
abbrev pub most_starts : ℕ
most_starts = 2 ^ 20 - 1

-- new names after the others, at which nothing is owed
pub record Grows {S : Type 0} (old new : Kept S) : Type 0 where
  pub more : Names
  pub names : new.names ≡ old.names ++ more
  pub amounts : new.amounts ≡ old.amounts ++ replicate (length more) nothing

-- an account owes more than its limit above what it is owed
pub record HasBelow (accounts : List Account) (claims dues : List ℕ) : Type 0 where
  pub account : ℕ
  pub here : account < length accounts
  pub below : (slice_index_or accounts account no_account).limit + slice_index dues account < slice_index claims account

-- all claims or all dues come to 2^63 or more
abbrev pub IsTooMuch : (claims dues : List ℕ) → Type 0
IsTooMuch claims dues = (2 ^ 63 ≤ sum claims) ⊎ (2 ^ 63 ≤ sum dues)

-- what a commit of the books can meet: the disk, a limit of SQLite's format, an earlier failure, or memory
abbrev pub IsOfDisk : BooksError → Type 0
IsOfDisk books.Device = ⊤
IsOfDisk books.Full = ⊤
IsOfDisk books.Damaged = ⊤
IsOfDisk books.Shut = ⊤
IsOfDisk books.BadName = ⊤
IsOfDisk books.NoMemory = ⊤
IsOfDisk books.NoBooks = ⊥
IsOfDisk books.Taken = ⊥
IsOfDisk books.NoAccount = ⊥
IsOfDisk books.TooMuch = ⊥
IsOfDisk books.TooLittle = ⊥
IsOfDisk books.NameTaken = ⊥

-- a step of adding names or of counting the start met it
abbrev pub IsOfStep : LedgerError → Type 0
IsOfStep Unlisted = ⊥
IsOfStep BelowOwed = ⊥
IsOfStep Reused = ⊥
IsOfStep (Books e) = IsOfDisk e
IsOfStep NoMemory = ⊤

-- why books do not fit a table
abbrev pub WhyBooks : (starts : ℕ) → (claims dues : List ℕ) → BooksError → Type 0
WhyBooks starts claims dues books.TooMuch = (most_starts ≤ starts) ⊎ IsTooMuch claims dues
WhyBooks starts claims dues books.Device = ⊤
WhyBooks starts claims dues books.Full = ⊤
WhyBooks starts claims dues books.Damaged = ⊤
WhyBooks starts claims dues books.Shut = ⊤
WhyBooks starts claims dues books.BadName = ⊤
WhyBooks starts claims dues books.NoMemory = ⊤
WhyBooks starts claims dues books.NoBooks = ⊥
WhyBooks starts claims dues books.Taken = ⊥
WhyBooks starts claims dues books.NoAccount = ⊥
WhyBooks starts claims dues books.TooLittle = ⊥
WhyBooks starts claims dues books.NameTaken = ⊥

abbrev pub WhyNotPlaced : {S : Type 0} → Kept S → (table : Names) → List Account → LedgerError → Type 0
WhyNotPlaced old table accounts Unlisted = HasUnlisted old.names old.amounts table
WhyNotPlaced old table accounts BelowOwed = HasBelow accounts (claims_of old.names old.amounts table) (dues_of old.names old.amounts table)
WhyNotPlaced old table accounts Reused = ⊥
WhyNotPlaced old table accounts (Books e) = WhyBooks old.starts (claims_of old.names old.amounts table) (dues_of old.names old.amounts table) e
WhyNotPlaced old table accounts NoMemory = ⊤

-- a refusal of the books, of a reference or of memory
abbrev pub IsLate : LedgerError → Type 0
IsLate Unlisted = ⊥
IsLate BelowOwed = ⊥
IsLate Reused = ⊤
IsLate (Books e) = ⊤
IsLate NoMemory = ⊤

-- what the table itself refuses
abbrev pub IsByTable : LedgerError → Type 0
IsByTable e = (e ≡ Unlisted) ⊎ (e ≡ BelowOwed)
