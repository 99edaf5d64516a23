use Rattle.std.proofs.Common.{◌≡◌, ◌++◌, ◌∷◌, [], length-append, refl, arith, subst}
use Rattle.sqlite_disk.specs.Disk.{MoreFaults}
use Rattle.st_hop_books.specs.Sums.{nothing}
use Rattle.st_hop_books.specs.Standing.{Kept, Holds, trail_in}
use Rattle.st_hop_books.specs.Reasons.{Because}
use Rattle.st_hop_books.specs.Commits.{Makes, Refuses, BeforeOrAfter, after_name, name_excuses}
use Rattle.st_hop_books.proofs.Steps.{on_err, holds_own}
use Rattle.st_hop_books.proofs.Causes.{err_told}
use Rattle.st_hop_books.proofs.Calls.{makes, refuses, refuses_early}
use Rattle.st_hop_books.proofs.Distinct.{distinct_push}
use Rattle.st_hop_books.proofs.books.Books.add.Goals as goal

pub returns-in_err-commit_account-clause-refused : goal.returns-in_err-commit_account-clause-refused
returns-in_err-commit_account-clause-refused g c =
    let old : Kept g.row.S.Denot = record { store = c.self.inside.store; starts = c.self.inside.starts; names = c.self.inside.names.items; amounts = c.self.inside.amounts.items } in
    let new : Kept g.row.S.Denot = record { store = c.commit_account.new.store; starts = c.self.inside.starts; names = c.self.inside.names.items; amounts = c.self.inside.amounts.items } in
    let told = c.in_err-commit_account.ensures in
    let named : c.in_ok-grown.grown.name ≡ c.args.name.now = rw c.as_bytes-2.ensures.value at c.in_ok-grown.ensures.name in
    let held : Holds (g.S.Store.view new.store) old.starts old.names old.amounts (trail_in (g.S.Store.view old.store)) c.self.inside.tally = rw (c.as_slice-2.ensures.value, c.as_slice-3.ensures.value) at told.undone in
    let moment : BeforeOrAfter g.S.Store old (after_name g.S.Store old c.args.name.now) new = λ clean db may. rw (c.as_slice-2.ensures.value, c.as_slice-3.ensures.value, named) at (told.any_moment clean db may) in
    on_err c.from_residual-in_err-commit_account.result (subst (λ (k : Kept g.row.S.Denot). Refuses g.S.Store k (after_name g.S.Store k c.args.name.now) new) c.self.view_is
    (refuses g.S.Store g.met.S.Store.settled old new (after_name g.S.Store old c.args.name.now) c.self.inside.tally (refl, refl, refl) held moment))

pub returns-in_err-commit_account-clause-cause : goal.returns-in_err-commit_account-clause-cause
returns-in_err-commit_account-clause-cause g c =
    let e = c.in_err-commit_account.field-0.0 in
    let named : c.in_ok-grown.grown.name ≡ c.args.name.now = rw c.as_bytes-2.ensures.value at c.in_ok-grown.ensures.name in
    err_told _ c.from_residual-in_err-commit_account.result e c.from_residual-in_err-commit_account.ensures.1 (λ clean.
    subst (λ (k : Kept g.row.S.Denot). Because (g.S.Store.view k.store) (MoreFaults (g.S.Store.faults k.store) (g.S.Store.faults c.commit_account.new.store)) (name_excuses (g.S.Store.view k.store) k.names c.args.name.now) e) c.self.view_is
    (rw (c.as_slice-2.ensures.value, named) at (c.in_err-commit_account.ensures.cause clean)))

pub invariant_of-self-2 : goal.invariant_of-self-2
invariant_of-self-2 g c =
    let old : Kept g.row.S.Denot = record { store = c.self.inside.store; starts = c.self.inside.starts; names = c.self.inside.names.items; amounts = c.self.inside.amounts.items } in
    let told = c.in_ok-commit_account.ensures in
    let named : c.in_ok-grown.grown.name ≡ c.args.name.now = rw c.as_bytes-2.ensures.value at c.in_ok-grown.ensures.name in
    let names : c.in_ok-grown.grown.names.items ≡ old.names ++ c.args.name.now ∷ [] = rw (c.as_slice-named.ensures.value, c.as_bytes-2.ensures.value) at c.in_ok-grown.ensures.names in
    let amounts : c.in_ok-grown.grown.amounts.items ≡ old.amounts ++ nothing ∷ [] = rw c.as_slice-owed.ensures.value at c.in_ok-grown.ensures.amounts in (
      holds_own _ _ _ _ (trail_in (g.S.Store.view old.store)) _ (rw (names, amounts) (rw (c.as_slice-2.ensures.value, c.as_slice-3.ensures.value, named) at told.holds)),
      rw (names, amounts) (omega (arith, c.self.invariant.1, length-append old.names (c.args.name.now ∷ []), length-append old.amounts (nothing ∷ []))),
      rw names (distinct_push old.names c.args.name.now c.self.invariant.2 (rw (c.as_slice.ensures.value, c.as_bytes.ensures.value) at (c.place_of.ensures.missing c.in-None.is))),
    )

pub returns-clause-added : goal.returns-clause-added
returns-clause-added g c =
    let old : Kept g.row.S.Denot = record { store = c.self.inside.store; starts = c.self.inside.starts; names = c.self.inside.names.items; amounts = c.self.inside.amounts.items } in
    let told = c.in_ok-commit_account.ensures in
    let named : c.in_ok-grown.grown.name ≡ c.args.name.now = rw c.as_bytes-2.ensures.value at c.in_ok-grown.ensures.name in
    let names : c.in_ok-grown.grown.names.items ≡ old.names ++ c.args.name.now ∷ [] = rw (c.as_slice-named.ensures.value, c.as_bytes-2.ensures.value) at c.in_ok-grown.ensures.names in
    let amounts : c.in_ok-grown.grown.amounts.items ≡ old.amounts ++ nothing ∷ [] = rw c.as_slice-owed.ensures.value at c.in_ok-grown.ensures.amounts in
    let new : Kept g.row.S.Denot = record { store = c.commit_account.new.store; starts = c.self.inside.starts; names = c.in_ok-grown.grown.names.items; amounts = c.in_ok-grown.grown.amounts.items } in
    let name = c.args.name.now in
    let held : Holds (g.S.Store.view new.store) old.starts (old.names ++ name ∷ []) (old.amounts ++ nothing ∷ []) (trail_in (g.S.Store.view old.store)) c.self.inside.tally = rw (c.as_slice-2.ensures.value, c.as_slice-3.ensures.value, named) at told.holds in
    let moment : BeforeOrAfter g.S.Store old (after_name g.S.Store old name) new = λ clean db may. rw (c.as_slice-2.ensures.value, c.as_slice-3.ensures.value, named) at (told.any_moment clean db may) in
    subst (λ (k : Kept g.row.S.Denot). Makes g.S.Store k (after_name g.S.Store k name) new) c.self.view_is
    (makes g.S.Store g.met.S.Store.settled old new (after_name g.S.Store old name) c.self.inside.tally (refl, names, amounts) held told.stays_open moment)

pub invariant_of-self : goal.invariant_of-self
invariant_of-self g c = (
  holds_own _ _ _ _ (trail_in (g.S.Store.view c.self.inside.store)) _ (rw (c.as_slice-2.ensures.value, c.as_slice-3.ensures.value) at c.in_err-commit_account.ensures.undone),
  c.self.invariant.1,
  c.self.invariant.2,
)

-- nothing was asked of the store
pub returns-in_err-grown-clause-refused : goal.returns-in_err-grown-clause-refused
returns-in_err-grown-clause-refused g c =
    let name = c.args.name.now in
    let old : Kept g.row.S.Denot = record { store = c.self.inside.store; starts = c.self.inside.starts; names = c.self.inside.names.items; amounts = c.self.inside.amounts.items } in
    on_err c.from_residual.result (subst (λ (k : Kept g.row.S.Denot). Refuses g.S.Store k (after_name g.S.Store k name) k) c.self.view_is
    (refuses_early g.S.Store g.met.S.Store.settled old old (after_name g.S.Store old name) c.self.inside.tally refl c.self.invariant.0))
