-- The hop with which a connector continues that has books.
use Rattle.std.specs.Prelude.{◌≡◌, ◌≤◌, ℕ, List, length, map, ⊤}
use Rattle.sqlite_trees.specs.View.{IsClean}
use Rattle.sqlite_trees.specs.declared.store.Store.{Ghosts}
use Rattle.st_hop.specs.Books.{GoesOn, restored}
use Rattle.st_hop.specs.Hop.{Hop}
use Rattle.st_hop.specs.Seen.{way_seen}
use Rattle.st_hop.specs.Table.{new_hop}
use Rattle.st_hop.specs.declared.route.Route.{Route}
use Rattle.st_hop_books.specs.Standing.{Kept, LeavesOnly, sums_of}
use Rattle.ilpstream_output.specs.declared.error.Fault.TheVariants as fault
use Rattle.ilpstream_ledger.specs.Names.{Names, claims_of, dues_of}
use Rattle.ilpstream_ledger.specs.Placing.{first_of}
use Rattle.ilpstream_ledger.specs.declared.error.LedgerError.TheVariants as ledger
use Rattle.st_hop_books.specs.declared.error.BooksError.{BooksError}
use Rattle.ilpstream_settings.specs.declared.line.AccountLine.{AccountLine}
use Rattle.ilpstream_settings.specs.Table.{names_of}
use Rattle.ilpstream_net.specs.declared.error.RunError.{RunError}
use Rattle.ilpstream_net.specs.declared.error.RunError.TheVariants as run

-- the hop of a table continues with what books say of its accounts, by their names. Its tickets are numbered from the first
-- number of the start that the books count now
abbrev pub IsRestored : {S : Type 0} → List ℕ → List AccountLine → List Route → (old new : Kept S) → Hop → Type 0
IsRestored own xs rs old new hop =
    hop ≡ restored (new_hop own (map (λ x. x.terms) xs) (map way_seen rs))
    (claims_of old.names old.amounts (names_of xs)) (dues_of old.names old.amounts (names_of xs)) (first_of new.starts)

-- the books say what is owed at the hop, and each crash leaves these books
pub record StandsFor {S : Type 0} (g : Ghosts S) (names : Names) (books : Kept S) (hop : Hop) : Type 0 where
  pub claims : hop.claims ≡ claims_of books.names books.amounts names
  pub dues : hop.dues ≡ dues_of books.names books.amounts names
  pub leaves : IsClean (g.view books.store) → LeavesOnly g books.store (sums_of g books)

-- the hop continues from each hop with the sums of these books, this address, the same number of accounts, and no ticket of a
-- later number
abbrev pub GoesOnFrom : (own : List ℕ) → (claims dues : List ℕ) → (next : ℕ) → Hop → Type 0
GoesOnFrom own claims dues next hop =
    (h : Hop) → h.own ≡ own → length h.accounts ≡ length hop.accounts → h.claims ≡ claims → h.dues ≡ dues → h.next ≤ next → GoesOn h hop

-- it does so from what books said of the accounts of a table, by their names
abbrev pub GoesOnFromBooks : {S : Type 0} → (own : List ℕ) → List AccountLine → (old new : Kept S) → Hop → Type 0
GoesOnFromBooks own xs old new hop =
    GoesOnFrom own (claims_of old.names old.amounts (names_of xs)) (dues_of old.names old.amounts (names_of xs)) (first_of new.starts) hop

-- which errors there are if no hop continues with the books
abbrev pub WhyNotRestored : RunError → Type 0
WhyNotRestored (run.Fault x) = x ≡ fault.NoMemory
WhyNotRestored run.NoHop = ⊤
WhyNotRestored (run.Ledger e) = ⊤
WhyNotRestored run.NoRandom = ⊥
WhyNotRestored run.NoListener = ⊥
WhyNotRestored run.BadTable = ⊥
WhyNotRestored run.BadOption = ⊥
WhyNotRestored (run.Transfer e) = ⊥

-- why books cannot be opened: they refuse, or memory is refused
abbrev pub IsOfBooks : RunError → Type 0
IsOfBooks (run.Fault x) = x ≡ fault.NoMemory
IsOfBooks (run.Ledger e) = (why : BooksError) × (e ≡ ledger.Books why)
IsOfBooks run.NoHop = ⊥
IsOfBooks run.NoRandom = ⊥
IsOfBooks run.NoListener = ⊥
IsOfBooks run.BadTable = ⊥
IsOfBooks run.BadOption = ⊥
IsOfBooks (run.Transfer e) = ⊥
