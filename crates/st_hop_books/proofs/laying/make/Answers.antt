use Rattle.std.proofs.Common.{[], inl, inr, subst, sym, ap}
use Rattle.sqlite_trees.specs.Tree.{Trees}
use Rattle.sqlite_trees.specs.View.{View}
use Rattle.st_hop_books.specs.Trail.{no_trail}
use Rattle.st_hop_books.specs.Table.{AreBooks}
use Rattle.st_hop_books.proofs.Steps.{at_ok, on_ok_both}
use Rattle.st_hop_books.proofs.MadeLemmas.{laid_ready}
use Rattle.st_hop_books.proofs.laying.make.Goals as goal

pub returns-clause-ready : goal.returns-clause-ready
returns-clause-ready g c =
    let was = g.S.Store.view c.args.store.now in
    let mid = g.S.Store.view c.create_tables-entered.new.store in
    let new = g.S.Store.view c.conclude.new.store in
    let entered = c.create_tables-entered in
    on_ok_both c.conclude.result (λ ok commits now. laid_ready was mid new (at_ok entered.result ok entered.ensures.laid (c.conclude.ensures.clean now)) (commits now)) c.conclude.ensures.entered c.conclude.ensures.committed

pub returns-clause-made : goal.returns-clause-made
returns-clause-made g c =
    let mid = g.S.Store.view c.create_tables-entered.new.store in
    let entered = c.create_tables-entered in
    on_ok_both c.conclude.result (λ ok commits now.
    subst (λ (db : Trees). AreBooks db 0 [] [] no_trail) (sym (ap (λ (v : View). v.trees) (commits now).is)) (at_ok entered.result ok entered.ensures.laid (c.conclude.ensures.clean now)).books)
    c.conclude.ensures.entered c.conclude.ensures.committed

pub returns-clause-any_moment : goal.returns-clause-any_moment
returns-clause-any_moment g c now db may =
    let entered = c.create_tables-entered in
    elim (c.conclude.ensures.crash now db may) [
      | inl new ↦ inr (subst (λ (t : Trees). AreBooks t 0 [] [] no_trail) (sym new.2) (at_ok entered.result new.0 entered.ensures.laid (c.conclude.ensures.clean now)).books)
      | inr stays ↦ inl (entered.ensures.quiet.outcomes db stays)
    ]
