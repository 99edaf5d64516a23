-- A payment outside Interledger or an adjustment, by the name of its account.
use Rattle.std.specs.Prelude.{◌≡◌, ◌≢◌, ◌⊎◌, ℕ, Bool, true, false, List, [], slice_get, Some, None}
use Rattle.sqlite_trees.specs.View.{IsClean}
use Rattle.sqlite_trees.specs.declared.error.StoreError.{StoreError}
use Rattle.sqlite_trees.specs.declared.store.Store.{Ghosts}
use Rattle.st_hop_books.specs.declared.balance.Entry.{Entry}
use Rattle.st_hop_books.specs.declared.balance.Kind.TheVariants.{Paid}
use Rattle.st_links.specs.declared.side.BalanceSide.{BalanceSide}
use Rattle.st_hop_books.specs.declared.error.BooksError.{BooksError}
use Rattle.st_hop_books.specs.declared.error.BooksError.TheVariants as books
use Rattle.st_hop_books.specs.Errors as errors
use Rattle.st_hop_books.specs.Payments.{Finds, IsCovered, name_at, paying}
use Rattle.st_hop_books.specs.Standing.{Kept, Tells, trail_in, sums_of}
use Rattle.st_hop_books.specs.Commits.{IsBecause, Makes, Rereads, after_payment, entering_excuses}
use Rattle.ilpstream_ledger.specs.declared.error.LedgerError.{LedgerError}
use Rattle.ilpstream_ledger.specs.declared.error.LedgerError.TheVariants.{Books, Reused}
use Rattle.ilpstream_ledger.specs.Names.{IsNone}

-- the account of this name had as much on that side, and the payment was booked there
pub record IsSettled {S : Type 0} (g : Ghosts S) (old : Kept S) (name : List ℕ) (side : BalanceSide) (amount moment : ℕ) (new : Kept S) : Type 0 where
  pub at : ℕ
  pub named : slice_get old.names at ≡ Some name
  pub covered : IsCovered old.amounts (paying Paid at side amount moment)
  pub made : Makes g old (after_payment g old (paying Paid at side amount moment) []) new

-- what is owed is as before
abbrev pub IsUnsettled : {S : Type 0} → Ghosts S → (old new : Kept S) → Type 0
IsUnsettled g old new = Tells new (sums_of g old)

-- why a payment is not booked: no account of the books has this name; or what the books say of a payment at the place of one that has it
abbrev pub WhyUnsettled : {S : Type 0} → Ghosts S → (old : Kept S) → (name : List ℕ) → BalanceSide → (amount moment : ℕ) → (new : Kept S) → LedgerError → Type 0
WhyUnsettled g old name side amount moment new e =
    ((e ≡ Books books.NoAccount) × IsNone old.names name × (new ≡ old))
    ⊎ ((at : ℕ) × (x : BooksError) × (slice_get old.names at ≡ Some name) × (e ≡ Books x)
    × IsBecause g old new (entering_excuses g old (paying Paid at side amount moment) []) x)

-- ---- once under a reference

-- the account of this name has a line with the reference, of this amount, and nothing was changed
pub record WasThere {S : Type 0} (g : Ghosts S) (old : Kept S) (name : List ℕ) (side : BalanceSide) (entry : Entry) (reference : List ℕ) (new : Kept S) : Type 0 where
  pub at : ℕ
  pub named : slice_get old.names at ≡ Some name
  pub found : IsClean (g.view new.store) → Finds (trail_in (g.view old.store)).paid (name_at old.names at) side reference (Some entry)
  pub same : Rereads g old new

-- it has none, the books were only read until then, and the entry was made with it
pub record IsEntered {S : Type 0} (g : Ghosts S) (old : Kept S) (name : List ℕ) (side : BalanceSide) (entry : Entry) (moment : ℕ)
    (reference : List ℕ) (new : Kept S) : Type 0 where
  pub at : ℕ
  pub named : slice_get old.names at ≡ Some name
  pub read : Kept S
  pub missing : IsClean (g.view read.store) → Finds (trail_in (g.view old.store)).paid (name_at old.names at) side reference None
  pub same : Rereads g old read
  pub covered : IsCovered read.amounts (paying entry.kind at side entry.amount moment)
  pub made : Makes g read (after_payment g read (paying entry.kind at side entry.amount moment) reference) new

abbrev pub IsOnce : {S : Type 0} → Ghosts S → (repeated : Bool) → (old : Kept S) → (name : List ℕ) → BalanceSide → Entry → (moment : ℕ)
    → (reference : List ℕ) → (new : Kept S) → Type 0
IsOnce g true old name side entry moment reference new = WasThere g old name side entry reference new
IsOnce g false old name side entry moment reference new = IsEntered g old name side entry moment reference new

-- Why nothing was entered: no account of the books has this name; another entry has the reference; the lines were not read; or what the
-- books say of the payment.
abbrev pub WhyNotOnce : {S : Type 0} → Ghosts S → (old : Kept S) → (name : List ℕ) → BalanceSide → Entry → (moment : ℕ)
    → (reference : List ℕ) → (new : Kept S) → LedgerError → Type 0
WhyNotOnce {S} g old name side entry moment reference new e =
    ((e ≡ Books books.NoAccount) × IsNone old.names name × (new ≡ old))
    ⊎ ((e ≡ Reused) × ((other : Entry) × (other ≢ entry) × WasThere g old name side other reference new))
    ⊎ ((why : StoreError) × (e ≡ Books (errors.told why)) × Rereads g old new)
    ⊎ ((at : ℕ) × (x : BooksError) × (read : Kept S) × (slice_get old.names at ≡ Some name) × (e ≡ Books x) × Rereads g old read
    × IsBecause g read new (entering_excuses g read (paying entry.kind at side entry.amount moment) reference) x)
