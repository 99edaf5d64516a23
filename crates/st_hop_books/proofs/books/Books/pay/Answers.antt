use Rattle.std.proofs.Common.{◌≡◌, refl, rules, arith, sym, subst, ◌∙◌}
use Rattle.std.specs.Vec.{with_items}
use Rattle.std.proofs.lemmas.List.{with_items_is}
use Rattle.sqlite_disk.specs.Disk.{MoreFaults}
use Rattle.st_hop_books.specs.declared.balance.Tally.{Tally}
use Rattle.st_hop_books.specs.Payments.{entry_text, paid_off}
use Rattle.st_hop_books.specs.Trail.{next_tally, with_entry}
use Rattle.st_hop_books.specs.Standing.{Kept, Holds, trail_in}
use Rattle.st_hop_books.specs.Reasons.{Because}
use Rattle.st_hop_books.specs.Commits.{Makes, Refuses, BeforeOrAfter, after_payment, payment_excuses}
use Rattle.st_hop_books.proofs.Steps.{on_err, holds_own}
use Rattle.st_hop_books.proofs.Causes.{err_told}
use Rattle.st_hop_books.proofs.Calls.{makes, refuses, refuses_early}
use Rattle.st_hop_books.proofs.books.Books.pay.Goals as goal

pub returns-in_err-commit_payment-clause-refused : goal.returns-in_err-commit_payment-clause-refused
returns-in_err-commit_payment-clause-refused g c =
    let payment = c.args.payment in
    let reference = c.args.reference.now in
    let old : Kept g.row.S.Denot = record { store = c.self.inside.store; starts = c.self.inside.starts; names = c.self.inside.names.items; amounts = c.self.inside.amounts.items } in
    let new : Kept g.row.S.Denot = record { store = c.commit_payment.new.store; starts = c.self.inside.starts; names = c.self.inside.names.items; amounts = c.self.inside.amounts.items } in
    let told = c.in_err-commit_payment.ensures in
    let held : Holds (g.S.Store.view new.store) old.starts old.names old.amounts (trail_in (g.S.Store.view old.store)) c.self.inside.tally = rw (c.as_slice-2.ensures.value, c.as_mut_slice.ensures.value, c.in_ok-draft.ensures.items, c.as_slice.ensures.value) at told.undone in
    let moment : BeforeOrAfter g.S.Store old (after_payment g.S.Store old payment reference) new = λ clean db may. rw (c.as_slice-2.ensures.value, c.as_slice-3.ensures.value, c.in_ok-text.ensures, c.as_mut_slice.ensures.value, c.in_ok-draft.ensures.items, c.as_slice.ensures.value) at (told.any_moment clean db may) in
    on_err c.from_residual-in_err-commit_payment.result (subst (λ (k : Kept g.row.S.Denot). Refuses g.S.Store k (after_payment g.S.Store k payment reference) new) c.self.view_is
    (refuses g.S.Store g.met.S.Store.settled old new (after_payment g.S.Store old payment reference) c.self.inside.tally (refl, refl, refl) held moment))

pub returns-in_err-commit_payment-clause-cause : goal.returns-in_err-commit_payment-clause-cause
returns-in_err-commit_payment-clause-cause g c =
    let payment = c.args.payment in
    let reference = c.args.reference.now in
    let e = c.in_err-commit_payment.field-0.0 in
    err_told _ c.from_residual-in_err-commit_payment.result e c.from_residual-in_err-commit_payment.ensures.1 (λ clean.
    subst (λ (k : Kept g.row.S.Denot). Because (g.S.Store.view k.store) (MoreFaults (g.S.Store.faults k.store) (g.S.Store.faults c.commit_payment.new.store)) (payment_excuses (g.S.Store.view k.store) k.names k.amounts payment (entry_text payment.kind payment.side reference)) e) c.self.view_is
    (rw (c.as_slice-2.ensures.value, c.as_slice-3.ensures.value, c.in_ok-text.ensures, c.as_mut_slice.ensures.value, c.in_ok-draft.ensures.items, c.as_slice.ensures.value) at (c.in_err-commit_payment.ensures.cause clean)))

pub returns-clause-paid : goal.returns-clause-paid
returns-clause-paid g c =
    let payment = c.args.payment in
    let reference = c.args.reference.now in
    let old : Kept g.row.S.Denot = record { store = c.self.inside.store; starts = c.self.inside.starts; names = c.self.inside.names.items; amounts = c.self.inside.amounts.items } in
    let draft = c.in_ok-draft.draft in
    let drafted = c.commit_payment.new.draft in
    let same : (with_items draft drafted).items ≡ drafted = with_items_is draft drafted (omega (arith, c.commit_payment.auto.draft, c.as_mut_slice.ensures.len)) in
    let new : Kept g.row.S.Denot = record { store = c.commit_payment.new.store; starts = c.self.inside.starts; names = c.self.inside.names.items; amounts = (with_items draft drafted).items } in
    let told = c.in_ok-commit_payment.ensures in
    let all : new.amounts ≡ paid_off old.amounts payment = same ∙ (rw (c.as_mut_slice.ensures.value, c.in_ok-draft.ensures.items, c.as_slice.ensures.value) at told.paid) in
    let held : Holds (g.S.Store.view new.store) old.starts old.names (paid_off old.amounts payment) (with_entry (trail_in (g.S.Store.view old.store)) old.names payment (entry_text payment.kind payment.side reference)) (next_tally c.self.inside.tally payment) =
    subst (λ a. Holds (g.S.Store.view new.store) old.starts old.names a (with_entry (trail_in (g.S.Store.view old.store)) old.names payment (entry_text payment.kind payment.side reference)) (next_tally c.self.inside.tally payment)) (sym same ∙ all) (rw (c.as_slice-2.ensures.value, c.as_slice-3.ensures.value, c.in_ok-text.ensures) at told.holds) in
    let moment : BeforeOrAfter g.S.Store old (after_payment g.S.Store old payment reference) new = λ clean db may. rw (c.as_slice-2.ensures.value, c.as_slice-3.ensures.value, c.in_ok-text.ensures, c.as_mut_slice.ensures.value, c.in_ok-draft.ensures.items, c.as_slice.ensures.value) at (told.any_moment clean db may) in
    subst (λ (k : Kept g.row.S.Denot). Makes g.S.Store k (after_payment g.S.Store k payment reference) new) c.self.view_is
    (makes g.S.Store g.met.S.Store.settled old new (after_payment g.S.Store old payment reference) (next_tally c.self.inside.tally payment) (refl, refl, all) held told.stays_open moment)

pub invariant_of-self : goal.invariant_of-self
invariant_of-self g c = (
  holds_own _ _ _ _ (trail_in (g.S.Store.view c.self.inside.store)) _ (rw (c.as_slice-2.ensures.value, c.as_mut_slice.ensures.value, c.in_ok-draft.ensures.items, c.as_slice.ensures.value) at c.in_err-commit_payment.ensures.undone),
  c.self.invariant.1,
  c.self.invariant.2,
)

pub invariant_of-self-2 : goal.invariant_of-self-2
invariant_of-self-2 g c =
    let payment = c.args.payment in
    let text = entry_text payment.kind payment.side c.args.reference.now in
    let trail = trail_in (g.S.Store.view c.self.inside.store) in
    let names = c.self.inside.names.items in
    let new = g.S.Store.view c.commit_payment.new.store in
    let draft = c.in_ok-draft.draft in
    let drafted = c.commit_payment.new.draft in
    let same : (with_items draft drafted).items ≡ drafted = with_items_is draft drafted (omega (arith, c.commit_payment.auto.draft, c.as_mut_slice.ensures.len)) in
    let held : Holds new c.self.inside.starts names drafted (with_entry trail names payment text) (next_tally c.self.inside.tally payment) =
    rw (c.as_slice-2.ensures.value, c.as_slice-3.ensures.value, c.in_ok-text.ensures) at c.in_ok-commit_payment.ensures.holds in (
      subst (λ (t : Tally). Holds new c.self.inside.starts names (with_items draft drafted).items (trail_in new) t) (sym c.in-Some.ensures)
          (holds_own _ _ _ _ (with_entry trail names payment text) _ (subst (λ a. Holds new c.self.inside.starts names a (with_entry trail names payment text) (next_tally c.self.inside.tally payment)) (sym same) held)),
      search rules,
      c.self.invariant.2,
    )

-- nothing was asked of the store
pub returns-in_err-text-clause-refused : goal.returns-in_err-text-clause-refused
returns-in_err-text-clause-refused g c =
    let payment = c.args.payment in
    let reference = c.args.reference.now in
    let old : Kept g.row.S.Denot = record { store = c.self.inside.store; starts = c.self.inside.starts; names = c.self.inside.names.items; amounts = c.self.inside.amounts.items } in
    on_err c.from_residual.result (subst (λ (k : Kept g.row.S.Denot). Refuses g.S.Store k (after_payment g.S.Store k payment reference) k) c.self.view_is
    (refuses_early g.S.Store g.met.S.Store.settled old old (after_payment g.S.Store old payment reference) c.self.inside.tally refl c.self.invariant.0))

-- nothing was asked of the store
pub returns-in_err-draft-clause-refused : goal.returns-in_err-draft-clause-refused
returns-in_err-draft-clause-refused g c =
    let payment = c.args.payment in
    let reference = c.args.reference.now in
    let old : Kept g.row.S.Denot = record { store = c.self.inside.store; starts = c.self.inside.starts; names = c.self.inside.names.items; amounts = c.self.inside.amounts.items } in
    on_err c.from_residual-in_err-draft.result (subst (λ (k : Kept g.row.S.Denot). Refuses g.S.Store k (after_payment g.S.Store k payment reference) k) c.self.view_is
    (refuses_early g.S.Store g.met.S.Store.settled old old (after_payment g.S.Store old payment reference) c.self.inside.tally refl c.self.invariant.0))
