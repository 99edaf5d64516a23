use Rattle.std.proofs.Common.{◌≡◌, ◌⊎◌, ◌+◌, refl, arith, subst}
use Rattle.st_hop_books.specs.Table.{AreBooks}
use Rattle.st_hop_books.specs.Standing.{Kept, Holds, trail_in}
use Rattle.st_hop_books.specs.Commits.{Makes, Refuses, BeforeOrAfter, after_start}
use Rattle.st_hop_books.proofs.Steps.{on_err, holds_own}
use Rattle.st_hop_books.proofs.Calls.{makes, refuses}
use Rattle.st_hop_books.proofs.books.Books.begin_life.Goals as goal

pub returns-in_err-commit_starts-clause-refused : goal.returns-in_err-commit_starts-clause-refused
returns-in_err-commit_starts-clause-refused g c =
    let old : Kept g.row.S.Denot = record { store = c.self.inside.store; starts = c.self.inside.starts; names = c.self.inside.names.items; amounts = c.self.inside.amounts.items } in
    let new : Kept g.row.S.Denot = record { store = c.commit_starts.new.store; starts = c.self.inside.starts; names = c.self.inside.names.items; amounts = c.self.inside.amounts.items } in
    let told = c.in_err-commit_starts.ensures in
    let held : Holds (g.S.Store.view new.store) old.starts old.names old.amounts (trail_in (g.S.Store.view old.store)) c.self.inside.tally = rw (c.as_slice.ensures.value, c.as_slice-2.ensures.value) at told.undone in
    let next : c.in-Some.next ≡ old.starts + 1 = omega (arith, c.in-Some.ensures) in
    let moment : BeforeOrAfter g.S.Store old (after_start g.S.Store old) new = λ clean db may.
    subst (λ n. g.S.Store.recovers old.store db ⊎ AreBooks db n old.names old.amounts (trail_in (g.S.Store.view old.store))) next (rw (c.as_slice.ensures.value, c.as_slice-2.ensures.value) at (told.any_moment clean db may)) in
    on_err c.from_residual.result (subst (λ (k : Kept g.row.S.Denot). Refuses g.S.Store k (after_start g.S.Store k) new) c.self.view_is
    (refuses g.S.Store g.met.S.Store.settled old new (after_start g.S.Store old) c.self.inside.tally (refl, refl, refl) held moment))

pub returns-clause-begun : goal.returns-clause-begun
returns-clause-begun g c =
    let old : Kept g.row.S.Denot = record { store = c.self.inside.store; starts = c.self.inside.starts; names = c.self.inside.names.items; amounts = c.self.inside.amounts.items } in
    let told = c.in_ok-commit_starts.ensures in
    let next : c.in-Some.next ≡ old.starts + 1 = omega (arith, c.in-Some.ensures) in
    let new : Kept g.row.S.Denot = record { store = c.commit_starts.new.store; starts = c.in-Some.next; names = c.self.inside.names.items; amounts = c.self.inside.amounts.items } in
    let held : Holds (g.S.Store.view new.store) (old.starts + 1) old.names old.amounts (trail_in (g.S.Store.view old.store)) c.self.inside.tally =
    subst (λ n. Holds (g.S.Store.view new.store) n old.names old.amounts (trail_in (g.S.Store.view old.store)) c.self.inside.tally) next (rw (c.as_slice.ensures.value, c.as_slice-2.ensures.value) at told.holds) in
    let moment : BeforeOrAfter g.S.Store old (after_start g.S.Store old) new = λ clean db may.
    subst (λ n. g.S.Store.recovers old.store db ⊎ AreBooks db n old.names old.amounts (trail_in (g.S.Store.view old.store))) next (rw (c.as_slice.ensures.value, c.as_slice-2.ensures.value) at (told.any_moment clean db may)) in
    subst (λ (k : Kept g.row.S.Denot). Makes g.S.Store k (after_start g.S.Store k) new) c.self.view_is
    (makes g.S.Store g.met.S.Store.settled old new (after_start g.S.Store old) c.self.inside.tally (next, refl, refl) held told.stays_open moment)

pub invariant_of-self : goal.invariant_of-self
invariant_of-self g c = (
  holds_own _ _ _ _ (trail_in (g.S.Store.view c.self.inside.store)) _ (rw (c.as_slice.ensures.value, c.as_slice-2.ensures.value) at c.in_err-commit_starts.ensures.undone),
  c.self.invariant.1,
  c.self.invariant.2,
)

pub invariant_of-self-2 : goal.invariant_of-self-2
invariant_of-self-2 g c = (
  holds_own _ _ _ _ (trail_in (g.S.Store.view c.self.inside.store)) _ (rw (c.as_slice.ensures.value, c.as_slice-2.ensures.value) at c.in_ok-commit_starts.ensures.holds),
  c.self.invariant.1,
  c.self.invariant.2,
)
