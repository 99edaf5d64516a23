-- What the command `ledger` prints, and how it ends.
use Rattle.std.specs.Prelude.{◌≡◌, ℕ, Bool, true, false, List, Option, Some, None, option_map, Result, Ok, Err}
use Rattle.std.specs.Io.KnownBytes.{Appends}
use Rattle.sqlite_trees.specs.declared.store.Store.{Ghosts}
use Rattle.st_devices.specs.Faults.{count_after}
use Rattle.st_devices.specs.Tallies.{device_of, tally_of}
use Rattle.st_devices.specs.declared.counted.Counting.{Counting}
use Rattle.st_devices.specs.declared.tally.Tally.{Tally}
use Rattle.st_hop_books.specs.declared.balance.Amounts.{Amounts}
use Rattle.st_hop_books.specs.declared.balance.Entry.{Entry}
use Rattle.st_hop_books.specs.declared.balance.Kind.{Kind}
use Rattle.st_hop_books.specs.declared.balance.Kind.TheVariants as kinds
use Rattle.st_links.specs.declared.side.BalanceSide.{BalanceSide}
use Rattle.st_hop_books.specs.Standing.{Kept}
use Rattle.ilpstream_output.specs.declared.error.Fault.{Fault}
use Rattle.ilpstream_output.specs.declared.error.Fault.TheVariants as fault
use Rattle.ilpstream_output.specs.Endings.{most_turns}
use Rattle.ilpstream_settings.specs.declared.ledger.Kind.{Kind as Asked}
use Rattle.ilpstream_settings.specs.declared.ledger.Kind.TheVariants as asked
use Rattle.ilpstream_settings.specs.declared.ledger.Payment.{Payment}
use Rattle.ilpstream_ledger.specs.Names.{amounts_of}
use Rattle.ilpstream_ledger.specs.Placing.{IsLate}
use Rattle.ilpstream_ledger.specs.Settling.{IsOnce, IsSettled}
use Rattle.ilpstream_ledger.specs.Texts.{account_text, ledger_text, repeated_text}
use Rattle.ilpstream_net.specs.declared.error.RunError.{RunError}
use Rattle.ilpstream_net.specs.declared.error.RunError.TheVariants as run

-- whether the books take an amount off or add it
abbrev pub kind_of : Asked → Kind
kind_of asked.Settle = kinds.Paid
kind_of asked.Adjust = kinds.Adjusted

-- the payment was booked, and the text is its account's line after that
abbrev pub IsPrintedAlone : {S : Type 0} → Ghosts S → (name : List ℕ) → BalanceSide → (amount : ℕ) → (old new : Kept S) → (text : List ℕ) → Type 0
IsPrintedAlone g name side amount old new text =
    ((moment : ℕ) × IsSettled g old name side amount moment new) × (text ≡ account_text name (amounts_of new.names new.amounts name))

-- the line of an account whose entry was booked before, or that was entered now
abbrev pub once_text : (repeated : Bool) → (name : List ℕ) → Amounts → List ℕ
once_text true = repeated_text
once_text false = account_text

-- it was booked under its reference, now or before, and the text says which
abbrev pub IsPrintedOnce : {S : Type 0} → Ghosts S → (name : List ℕ) → BalanceSide → Entry → (reference : List ℕ) → (old new : Kept S) → (text : List ℕ) → Type 0
IsPrintedOnce g name side entry reference old new text =
    (repeated : Bool) × ((moment : ℕ) × IsOnce g repeated old name side entry moment reference new)
    × (text ≡ once_text repeated name (amounts_of new.names new.amounts name))

abbrev pub IsPrintedAs : {S : Type 0} → Ghosts S → Payment → (reference : Option (List ℕ)) → (old new : Kept S) → List ℕ → Type 0
IsPrintedAs g p None old new text = IsPrintedAlone g p.name.now p.side p.amount old new text
IsPrintedAs g p (Some reference) old new text =
    IsPrintedOnce g p.name.now p.side (record { kind = kind_of p.kind; amount = p.amount }) reference old new text

-- the text of books, old and new: all accounts and the starts of books that stay; or the line of the account of an entry
abbrev pub IsPrinted : {S : Type 0} → Ghosts S → Option Payment → (old new : Kept S) → List ℕ → Type 0
IsPrinted g None old new text = (new ≡ old) × (text ≡ ledger_text old.starts old.names old.amounts)
IsPrinted g (Some p) old new text = IsPrintedAs g p (option_map (λ r. r.now) p.reference) old new text

-- the text of books that were found was written
abbrev pub PrintsFound : {S : Type 0} → Ghosts S → (finds : Kept S → Type 0) → Option Payment → (before now : Option (List ℕ)) → Type 0
PrintsFound {S} g finds payment before now =
    (old : Kept S) × (new : Kept S) × (text : List ℕ) × finds old × IsPrinted g payment old new text × Appends before now text

-- why a text was not written, w the writer's tally before and v now
abbrev pub FailsToWrite : Fault → (w v : Tally) → Type 0
FailsToWrite fault.Input w v = ⊥
FailsToWrite fault.Output w v = v.faults ≡ count_after 1 w.faults
FailsToWrite fault.Turns w v = v.calls ≡ count_after most_turns w.calls
FailsToWrite fault.NoMemory w v = ⊥

-- what `ledger` wrote: some books' lines and starts, or the line of the account of an entry
abbrev pub PrintsLedger : Option Payment → (before now : Option (List ℕ)) → Type 0
PrintsLedger None before now = (starts : ℕ) × (names : _) × (all : _) × Appends before now (ledger_text starts names all)
PrintsLedger (Some p) before now = (repeated : Bool) × (a : _) × Appends before now (once_text repeated p.name.now a)

-- how `ledger` ends, w the writer before and v now: nothing is written if the books refuse
abbrev pub EndsLedger : {T W : Type 0} → (W → Option (List ℕ)) → Option Payment → Counting W → Counting W → Result T RunError → Type 0
EndsLedger contents payment w v (Ok x) = PrintsLedger payment (contents (device_of w)) (contents (device_of v))
EndsLedger contents payment w v (Err (run.Fault x)) = FailsToWrite x (tally_of w) (tally_of v)
EndsLedger contents payment w v (Err (run.Ledger e)) = (v ≡ w) × IsLate e
EndsLedger contents payment w v (Err run.NoRandom) = ⊥
EndsLedger contents payment w v (Err run.NoListener) = ⊥
EndsLedger contents payment w v (Err run.NoHop) = ⊥
EndsLedger contents payment w v (Err run.BadTable) = ⊥
EndsLedger contents payment w v (Err run.BadOption) = ⊥
EndsLedger contents payment w v (Err (run.Transfer e)) = ⊥
