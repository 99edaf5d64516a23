use Rattle.std.proofs.Common.{◌<◌, length, IfOk, IsTrue, refl, arith, sym, ap, subst, ◌∙◌}
use Rattle.sqlite_trees.specs.Tree.{Trees}
use Rattle.sqlite_trees.specs.View.{IsClean}
use Rattle.st_hop_books.specs.declared.balance.Kind.TheVariants.{Paid, Adjusted}
use Rattle.st_hop_books.specs.Payments.{Finds, FindsText, entry_text, name_at}
use Rattle.st_hop_books.specs.Table.{payment_tree}
use Rattle.st_hop_books.specs.Standing.{Kept, Holds, trail_in}
use Rattle.st_hop_books.specs.Commits.{Rereads}
use Rattle.st_hop_books.proofs.Steps.{clean_open, held_undone, holds_own, ok_both, open_sound}
use Rattle.st_hop_books.proofs.Causes.{name_here}
use Rattle.st_hop_books.proofs.Calls.{rereads}
use Rattle.st_hop_books.proofs.books.Books.entered.Goals as goal

pub invariant_of-self : goal.invariant_of-self
invariant_of-self g c =
    let was = g.S.Store.view c.self.inside.store in
    let mid = g.S.Store.view c.find-found.new.store in
    let new = g.S.Store.view c.rollback.new.self in (
      holds_own _ _ _ _ (trail_in was) _
          (held_undone was mid new c.self.inside.starts c.self.inside.names.items c.self.inside.amounts.items (trail_in was) c.self.inside.tally c.self.invariant.0 (λ _. c.find-found.ensures.keeps) (λ _. c.rollback.ensures.undone)
          (λ now. omega (arith, c.rollback.ensures.quiet.clean, now)) (λ now. omega (arith, c.find-found.ensures.quiet.clean, now)) (clean_open new (g.met.S.Store.shut_if_dirty c.rollback.new.self))),
      c.self.invariant.1,
      c.self.invariant.2,
    )

pub returns-clause-same : goal.returns-clause-same
returns-clause-same g c =
    let was = g.S.Store.view c.self.inside.store in
    let mid = g.S.Store.view c.find-found.new.store in
    let new = g.S.Store.view c.rollback.new.self in
    let old : Kept g.row.S.Denot = record { store = c.self.inside.store; starts = c.self.inside.starts; names = c.self.inside.names.items; amounts = c.self.inside.amounts.items } in
    let after : Kept g.row.S.Denot = record { store = c.rollback.new.self; starts = c.self.inside.starts; names = c.self.inside.names.items; amounts = c.self.inside.amounts.items } in
    let held : Holds new old.starts old.names old.amounts (trail_in was) c.self.inside.tally =
    held_undone was mid new old.starts old.names old.amounts (trail_in was) c.self.inside.tally c.self.invariant.0 (λ _. c.find-found.ensures.keeps) (λ _. c.rollback.ensures.undone)
    (λ now. omega (arith, c.rollback.ensures.quiet.clean, now)) (λ now. omega (arith, c.find-found.ensures.quiet.clean, now)) (clean_open new (g.met.S.Store.shut_if_dirty c.rollback.new.self)) in
    subst (λ (k : Kept g.row.S.Denot). Rereads g.S.Store k after) c.self.view_is
    (rereads g.S.Store g.met.S.Store.settled old after c.self.inside.tally (refl, refl, refl) held (λ db may. c.find-found.ensures.quiet.outcomes db (c.rollback.ensures.quiet.outcomes db may)))

pub returns-clause-found : goal.returns-clause-found
returns-clause-found g c =
    let was = g.S.Store.view c.self.inside.store in
    let mid = g.S.Store.view c.find-found.new.store in
    let new = g.S.Store.view c.rollback.new.self in
    let names = c.self.inside.names.items in
    let paid = entry_text Paid c.args.side c.args.reference.now in
    let adjusted = entry_text Adjusted c.args.side c.args.reference.now in
    let low = subst (λ (k : Kept g.row.S.Denot). c.args.account < length k.names) (sym c.self.view_is) c.requires in
    let name = name_here names c.args.account c.index.result.now low c.index.ensures in
    subst (λ (k : Kept g.row.S.Denot). IfOk c.find-found.result (λ e. IsClean new → Finds (trail_in (g.S.Store.view k.store)).paid (name_at k.names c.args.account) c.args.side c.args.reference.now e)) c.self.view_is
    (ok_both c.find-found.result _ _ (λ e. IsClean new → Finds (trail_in was).paid (name_at names c.args.account) c.args.side c.args.reference.now e) (λ e found sound now.
    let late : IsClean mid = omega (arith, c.rollback.ensures.quiet.clean, now) in
    let is_open : IsTrue was.is_open = open_sound was (g.met.S.Store.broken_if_shut c.self.inside.store) (sound late) in
    let rows = ap (λ (db : Trees). db payment_tree) (c.self.invariant.0.1 is_open).0.settled in
    let one = subst (λ r. FindsText r c.as_slice.result.now c.as_slice-2.result.now c.as_slice-3.result.now e) rows (found late) in
    let two = subst (λ n. FindsText (trail_in was).paid n c.as_slice-2.result.now c.as_slice-3.result.now e) (c.as_slice.ensures ∙ sym name) one in
    let three = subst (λ p. FindsText (trail_in was).paid (name_at names c.args.account) p c.as_slice-3.result.now e) (c.as_slice-2.ensures.value ∙ c.in_ok-paid.ensures) two in
    subst (λ a. FindsText (trail_in was).paid (name_at names c.args.account) paid a e) (c.as_slice-3.ensures.value ∙ c.in_ok-adjusted.ensures) three) c.find-found.ensures.found c.find-found.ensures.sound)
