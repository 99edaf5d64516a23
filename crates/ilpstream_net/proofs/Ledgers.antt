-- How the command `ledger` may end.
use Rattle.std.proofs.Common.{◌≡◌, ℕ, List, Option, Some, None, false, refl, sym, ap, subst, ◌∙◌}
use Rattle.std.specs.Io.KnownBytes.{Appends}
use Rattle.std.specs.Prelude.{Bool, IfErr, IsErrAnd, OnOk, Result, Ok, Err, option_map}
use Rattle.sqlite_trees.specs.declared.store.Store.{Ghosts}
use Rattle.st_devices.specs.Tallies.{device_of, tally_of}
use Rattle.st_devices.specs.declared.counted.Counting.{Counting}
use Rattle.st_hop_books.specs.declared.balance.Amounts.{Amounts}
use Rattle.st_hop_books.specs.declared.balance.Entry.{Entry}
use Rattle.st_links.specs.declared.side.BalanceSide.{BalanceSide}
use Rattle.st_hop_books.specs.Standing.{Kept}
use Rattle.ilpstream_output.specs.declared.error.Fault.{Fault}
use Rattle.ilpstream_settings.specs.declared.ledger.Payment.{Payment}
use Rattle.ilpstream_ledger.specs.declared.error.LedgerError.{LedgerError}
use Rattle.ilpstream_ledger.specs.Names.{amounts_of}
use Rattle.ilpstream_ledger.specs.Placing.{IsLate}
use Rattle.ilpstream_ledger.specs.Settling.{IsOnce}
use Rattle.ilpstream_net.specs.Ledger.{EndsLedger, FailsToWrite, IsPrinted, IsPrintedAs, IsPrintedOnce, PrintsLedger, once_text}
use Rattle.ilpstream_net.specs.declared.error.RunError.{RunError}
use Rattle.ilpstream_net.specs.declared.error.RunError.TheVariants as run

-- and of one that was booked under a reference
pub printed_once : {S : Type 0} (g : Ghosts S) (repeated : Bool) (name : List ℕ) (side : BalanceSide) (entry : Entry) (reference : List ℕ) (old new : Kept S) (moment : ℕ) (left : Amounts) (text : List ℕ)
    → IsOnce g repeated old name side entry moment reference new → left ≡ amounts_of new.names new.amounts name → text ≡ once_text repeated name left → IsPrintedOnce g name side entry reference old new text
printed_once g repeated name side entry reference old new moment left text once told line = (repeated, (moment, once), line ∙ ap (once_text repeated name) told)

-- what was printed of an entry was written
prints_as : {S : Type 0} (g : Ghosts S) (p : Payment) (reference : Option (List ℕ)) (old new : Kept S) (before now : Option (List ℕ)) (text : List ℕ) → IsPrintedAs g p reference old new text → Appends before now text
    → PrintsLedger (Some p) before now
prints_as g p None old new before now text printed whole = (false, amounts_of new.names new.amounts p.name.now, subst (λ (t : List ℕ). Appends before now t) printed.1 whole)
prints_as g p (Some reference) old new before now text printed whole = (printed.0, amounts_of new.names new.amounts p.name.now, subst (λ (t : List ℕ). Appends before now t) printed.2 whole)

prints_ledger : {S : Type 0} (g : Ghosts S) (payment : Option Payment) (old new : Kept S) (before now : Option (List ℕ)) (text : List ℕ) → IsPrinted g payment old new text → Appends before now text → PrintsLedger payment before now
prints_ledger g None old new before now text printed whole = (old.starts, old.names, old.amounts, subst (λ (t : List ℕ). Appends before now t) printed.1 whole)
prints_ledger g (Some p) old new before now text printed whole = prints_as g p (option_map (λ r. r.now) p.reference) old new before now text printed whole

-- the text of books was written, or was not
pub ends_printed : {T S W : Type 0} (g : Ghosts S) (contents : W → Option (List ℕ)) (payment : Option Payment) (old new : Kept S) (w v : Counting W) (text : List ℕ) (r : Result T RunError) → IsPrinted g payment old new text
    → OnOk r (Appends (contents (device_of w)) (contents (device_of v)) text) → IfErr r (λ e. (x : Fault) × (e ≡ run.Fault x) × FailsToWrite x (tally_of w) (tally_of v)) → EndsLedger contents payment w v r
ends_printed g contents payment old new w v text (Ok x) printed whole refused = prints_ledger g payment old new (contents (device_of w)) (contents (device_of v)) text printed whole
ends_printed {T} g contents payment old new w v text (Err e) printed whole refused = subst (λ (y : RunError). EndsLedger {T = T} contents payment w v (Err y)) (sym refused.1) refused.2

-- the books refused, and nothing was written
pub ends_refused : {T W : Type 0} (contents : W → Option (List ℕ)) (payment : Option Payment) (w : Counting W) (r : Result T RunError) (e : LedgerError) → IsErrAnd r (λ x. x ≡ run.Ledger e) → IsLate e
    → EndsLedger contents payment w w r
ends_refused {T} contents payment w (Ok x) e is late = absurd is
ends_refused {T} contents payment w (Err x) e is late = subst (λ (y : RunError). EndsLedger {T = T} contents payment w w (Err y)) (sym is) (refl, late)
