use Rattle.std.proofs.Common.{◌≡◌, refl, rules, arith, sym, subst, ◌∙◌}
use Rattle.std.specs.Vec.{with_items}
use Rattle.std.proofs.lemmas.List.{with_items_is}
use Rattle.sqlite_disk.specs.Disk.{MoreFaults}
use Rattle.st_hop_books.specs.Sums.{booked}
use Rattle.st_hop_books.specs.declared.balance.Tally.{Tally}
use Rattle.st_hop_books.specs.Trail.{later_tally, with_bookings}
use Rattle.st_hop_books.specs.Standing.{Kept, Holds, trail_in}
use Rattle.st_hop_books.specs.Reasons.{Because}
use Rattle.st_hop_books.specs.Commits.{Makes, Refuses, BeforeOrAfter, after_bookings, booking_excuses}
use Rattle.st_hop_books.proofs.Steps.{on_err, holds_own}
use Rattle.st_hop_books.proofs.Causes.{err_told}
use Rattle.st_hop_books.proofs.Calls.{makes, refuses}
use Rattle.st_hop_books.proofs.books.Books.book.Goals as goal

pub returns-in_err-commit_bookings-clause-refused : goal.returns-in_err-commit_bookings-clause-refused
returns-in_err-commit_bookings-clause-refused g c =
    let old : Kept g.row.S.Denot = record { store = c.self.inside.store; starts = c.self.inside.starts; names = c.self.inside.names.items; amounts = c.self.inside.amounts.items } in
    let new : Kept g.row.S.Denot = record { store = c.commit_bookings.new.store; starts = c.self.inside.starts; names = c.self.inside.names.items; amounts = c.self.inside.amounts.items } in
    let told = c.in_err-commit_bookings.ensures in
    let held : Holds (g.S.Store.view new.store) old.starts old.names old.amounts (trail_in (g.S.Store.view old.store)) c.self.inside.tally = rw (c.as_slice-2.ensures.value, c.as_mut_slice.ensures.value, c.in_ok-draft.ensures.items, c.as_slice.ensures.value) at told.undone in
    let moment : BeforeOrAfter g.S.Store old (after_bookings g.S.Store old c.args.bookings.now) new = λ clean db may. rw (c.as_slice-2.ensures.value, c.as_mut_slice.ensures.value, c.in_ok-draft.ensures.items, c.as_slice.ensures.value) at (told.any_moment clean db may) in
    on_err c.from_residual-in_err-commit_bookings.result (subst (λ (k : Kept g.row.S.Denot). Refuses g.S.Store k (after_bookings g.S.Store k c.args.bookings.now) new) c.self.view_is
    (refuses g.S.Store g.met.S.Store.settled old new (after_bookings g.S.Store old c.args.bookings.now) c.self.inside.tally (refl, refl, refl) held moment))

pub returns-in_err-commit_bookings-clause-cause : goal.returns-in_err-commit_bookings-clause-cause
returns-in_err-commit_bookings-clause-cause g c =
    let e = c.in_err-commit_bookings.field-0.0 in
    err_told _ c.from_residual-in_err-commit_bookings.result e c.from_residual-in_err-commit_bookings.ensures.1 (λ clean.
    subst (λ (k : Kept g.row.S.Denot). Because (g.S.Store.view k.store) (MoreFaults (g.S.Store.faults k.store) (g.S.Store.faults c.commit_bookings.new.store)) (booking_excuses (g.S.Store.view k.store) k.names k.amounts c.args.bookings.now) e) c.self.view_is
    (rw (c.as_slice-2.ensures.value, c.as_mut_slice.ensures.value, c.in_ok-draft.ensures.items, c.as_slice.ensures.value) at (c.in_err-commit_bookings.ensures.cause clean)))

pub returns-clause-committed : goal.returns-clause-committed
returns-clause-committed g c =
    let old : Kept g.row.S.Denot = record { store = c.self.inside.store; starts = c.self.inside.starts; names = c.self.inside.names.items; amounts = c.self.inside.amounts.items } in
    let draft = c.in_ok-draft.draft in
    let drafted = c.commit_bookings.new.draft in
    let same : (with_items draft drafted).items ≡ drafted = with_items_is draft drafted (omega (arith, c.commit_bookings.auto.draft, c.as_mut_slice.ensures.len)) in
    let new : Kept g.row.S.Denot = record { store = c.commit_bookings.new.store; starts = c.self.inside.starts; names = c.self.inside.names.items; amounts = (with_items draft drafted).items } in
    let told = c.in_ok-commit_bookings.ensures in
    let bookings = c.args.bookings.now in
    let all : new.amounts ≡ booked old.amounts bookings = same ∙ (rw (c.as_mut_slice.ensures.value, c.in_ok-draft.ensures.items, c.as_slice.ensures.value) at told.booked) in
    let after = with_bookings (trail_in (g.S.Store.view old.store)) old.names bookings in
    let count = later_tally c.self.inside.tally bookings in
    let held : Holds (g.S.Store.view new.store) old.starts old.names (booked old.amounts bookings) after count =
    subst (λ a. Holds (g.S.Store.view new.store) old.starts old.names a after count) (sym same ∙ all) (rw (c.as_slice-2.ensures.value) at told.holds) in
    let moment : BeforeOrAfter g.S.Store old (after_bookings g.S.Store old bookings) new = λ clean db may. rw (c.as_slice-2.ensures.value, c.as_mut_slice.ensures.value, c.in_ok-draft.ensures.items, c.as_slice.ensures.value) at (told.any_moment clean db may) in
    subst (λ (k : Kept g.row.S.Denot). Makes g.S.Store k (after_bookings g.S.Store k bookings) new) c.self.view_is
    (makes g.S.Store g.met.S.Store.settled old new (after_bookings g.S.Store old bookings) count (refl, refl, all) held told.stays_open moment)

pub invariant_of-self : goal.invariant_of-self
invariant_of-self g c = (
  holds_own _ _ _ _ (trail_in (g.S.Store.view c.self.inside.store)) _ (rw (c.as_slice-2.ensures.value, c.as_mut_slice.ensures.value, c.in_ok-draft.ensures.items, c.as_slice.ensures.value) at c.in_err-commit_bookings.ensures.undone),
  c.self.invariant.1,
  c.self.invariant.2,
)

pub invariant_of-self-2 : goal.invariant_of-self-2
invariant_of-self-2 g c =
    let new = g.S.Store.view c.commit_bookings.new.store in
    let names = c.self.inside.names.items in
    let bookings = c.args.bookings.now in
    let after = with_bookings (trail_in (g.S.Store.view c.self.inside.store)) names bookings in
    let count = later_tally c.self.inside.tally bookings in
    let draft = c.in_ok-draft.draft in
    let drafted = c.commit_bookings.new.draft in
    let same : (with_items draft drafted).items ≡ drafted = with_items_is draft drafted (omega (arith, c.commit_bookings.auto.draft, c.as_mut_slice.ensures.len)) in
    let held : Holds new c.self.inside.starts names drafted after count = rw (c.as_slice-2.ensures.value) at c.in_ok-commit_bookings.ensures.holds in (
      subst (λ (t : Tally). Holds new c.self.inside.starts names (with_items draft drafted).items (trail_in new) t) (sym c.in_ok-commit_bookings.ensures.tally)
          (holds_own _ _ _ _ after _ (subst (λ a. Holds new c.self.inside.starts names a after count) (sym same) held)),
      search rules,
      c.self.invariant.2,
    )
