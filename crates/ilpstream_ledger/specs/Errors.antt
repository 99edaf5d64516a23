-- The numbers of what a ledger refuses.
use Rattle.std.specs.Prelude.{ℕ, Option, None}
use Rattle.st_hop_books.specs.Errors as books
use Rattle.ilpstream_ledger.specs.declared.error.LedgerError.{LedgerError}
use Rattle.ilpstream_ledger.specs.declared.error.LedgerError.TheVariants.{Unlisted, BelowOwed, Reused, Books, NoMemory}

-- what the books refuse keeps its number
abbrev pub number : LedgerError → ℕ
number Unlisted = 122
number BelowOwed = 123
number Reused = 125
number (Books e) = books.number e
number NoMemory = 99

-- the number inside what the books refused
abbrev pub inner : LedgerError → Option ℕ
inner Unlisted = None
inner BelowOwed = None
inner Reused = None
inner (Books e) = books.inner e
inner NoMemory = None
