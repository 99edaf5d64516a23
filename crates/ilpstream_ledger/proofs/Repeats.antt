-- An entry under a reference: what was read, and what was booked then.
use Rattle.std.proofs.Common.{◌≡◌, ◌≢◌, ◌<◌, inl, inr, ℕ, List, length, slice_get, Some, None, refl, ap, subst, ◌∙◌}
use Rattle.std.proofs.lemmas.Option.{slice_get_within}
use Rattle.sqlite_trees.specs.View.{IsClean}
use Rattle.sqlite_trees.specs.declared.error.StoreError.{StoreError}
use Rattle.sqlite_trees.specs.declared.store.Store.{Ghosts}
use Rattle.st_hop_books.specs.declared.balance.Entry.{Entry}
use Rattle.st_links.specs.declared.side.BalanceSide.{BalanceSide}
use Rattle.st_hop_books.specs.declared.error.BooksError.{BooksError}
use Rattle.st_hop_books.specs.Errors.{told}
use Rattle.st_hop_books.specs.Payments.{Finds, IsCovered, entry_text, name_at, paying}
use Rattle.st_hop_books.specs.Standing.{Kept, Sums, trail_in}
use Rattle.st_hop_books.specs.Commits.{IsBecause, Makes, Refuses, Rereads, after_payment, payment_excuses}
use Rattle.ilpstream_ledger.specs.declared.error.LedgerError.TheVariants.{Books, Reused}
use Rattle.ilpstream_ledger.specs.Settling.{IsEntered, IsUnsettled, WasThere, WhyNotOnce}

-- a place at which a name was found is one of theirs
pub place_within : (names : List (List ℕ)) (at : ℕ) (name : List ℕ) → slice_get names at ≡ Some name → at < length names
place_within names at name is = slice_get_within names at name is

module _ {S : Type 0} (g : Ghosts S) (old new : Kept S) where
  -- nothing was entered, and what is owed is as before
  pub reread_unsettled : Rereads g old new → IsUnsettled g old new
  reread_unsettled same = same.same

  pub refused_unsettled : (read : Kept S) (after : Sums) → Rereads g old read → Refuses g read after new → IsUnsettled g old new
  refused_unsettled read after same refused = (refused.same.0 ∙ same.same.0, refused.same.1 ∙ same.same.1, refused.same.2 ∙ same.same.2)

  -- it was there before
  pub once_before : (name : List ℕ) (side : BalanceSide) (entry found : Entry) (reference : List ℕ) (at : ℕ) → found ≡ entry → slice_get old.names at ≡ Some name
      → (IsClean (g.view new.store) → Finds (trail_in (g.view old.store)).paid (name_at old.names at) side reference (Some found)) → Rereads g old new
      → WasThere g old name side entry reference new
  once_before name side entry found reference at is named there same =
      subst (λ (e : Entry). WasThere g old name side e reference new) is (record { at = at; named = named; found = there; same = same })

  module _ (name : List ℕ) (side : BalanceSide) (entry : Entry) (moment : ℕ) (reference : List ℕ) where
    -- it was not, and is now
    pub once_now : (at : ℕ) (read : Kept S) → slice_get old.names at ≡ Some name
        → (IsClean (g.view read.store) → Finds (trail_in (g.view old.store)).paid (name_at old.names at) side reference None) → Rereads g old read
        → IsCovered read.amounts (paying entry.kind at side entry.amount moment) → Makes g read (after_payment g read (paying entry.kind at side entry.amount moment) reference) new
        → IsEntered g old name side entry moment reference new
    once_now at read named missing same covered made = record { at = at; named = named; read = read; missing = missing; same = same; covered = covered; made = made }

    -- the lines were not read
    pub why_unread : (x : BooksError) → ((why : StoreError) × (x ≡ told why)) → Rereads g old new → WhyNotOnce g old name side entry moment reference new (Books x)
    why_unread x it same = inr (inr (inl (it.0, ap (λ (b : BooksError). Books b) it.1, same)))

    -- another entry was there
    pub why_reused : (at : ℕ) (found : Entry) → found ≢ entry → slice_get old.names at ≡ Some name
        → (IsClean (g.view new.store) → Finds (trail_in (g.view old.store)).paid (name_at old.names at) side reference (Some found)) → Rereads g old new
        → WhyNotOnce g old name side entry moment reference new Reused
    why_reused at found other named there same = inr (inl (refl, (found, other, record { at = at; named = named; found = there; same = same })))

    -- the books refused
    pub why_unpaid : (at : ℕ) (x : BooksError) (read : Kept S) → slice_get old.names at ≡ Some name → Rereads g old read
        → IsBecause g read new (payment_excuses (g.view read.store) read.names read.amounts (paying entry.kind at side entry.amount moment) (entry_text entry.kind side reference)) x
        → WhyNotOnce g old name side entry moment reference new (Books x)
    why_unpaid at x read named same because = inr (inr (inr (at, x, read, named, refl, same, because)))
