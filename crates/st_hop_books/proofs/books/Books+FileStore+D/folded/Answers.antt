use Rattle.std.proofs.Common.{◌≡◌, IsTrue, ap, sym, subst, ◌∙◌}
use Rattle.sqlite_trees.specs.Tree.{Trees}
use Rattle.sqlite_trees.specs.View.{IsClean}
use Rattle.sqlite_store.specs.declared.store.FileStore.{FileStore}
use Rattle.sqlite_store.specs.FileStore.{view, recovers, log_frames, HasSpilled}
use Rattle.st_hop_books.specs.Standing.{Kept}
use Rattle.st_hop_books.proofs.Folding.{folded_holds}
use Rattle.st_hop_books.proofs.books.Books+FileStore+D.folded.Goals as goal

pub invariant_of-store : goal.invariant_of-store
invariant_of-store g c =
    let it = c.checkpoint.new.self in
    record { served = it.served; stored = it.stored; cookie = it.cookie; marked = it.marked; safe = it.safe }

pub over-requires-clause-holds : goal.over-requires-clause-holds
over-requires-clause-holds g c =
    folded_holds (view c.self.inside.store) (view c.checkpoint.new.self) c.self.inside.starts c.self.inside.names.items c.self.inside.amounts.items c.self.inside.tally c.self.invariant.0 c.in_ok-checkpoint.ensures.open c.in_ok-checkpoint.ensures.same

pub returns-clause-same : goal.returns-clause-same
returns-clause-same g c =
    let before = ap (λ (k : Kept (FileStore g.row.D.Denot g.D.Disk)). view k.store) c.self.view_is in
    subst (λ (k : Kept (FileStore g.row.D.Denot g.D.Disk)). IsClean (view k.store) → IsTrue (view k.store).is_open × (view k.store ≡ view c.args.self.store)) (sym c.over.ensures) (λ clean.
    let is_open = c.in_ok-checkpoint.ensures.open clean in
    (is_open, c.in_ok-checkpoint.ensures.same is_open ∙ before))

pub returns-clause-crash : goal.returns-clause-crash
returns-clause-crash g c =
    subst (λ (k : Kept (FileStore g.row.D.Denot g.D.Disk)). (db : Trees) → recovers k.store db → recovers c.args.self.store db) (sym c.over.ensures) (λ db may.
    subst (λ (k : Kept (FileStore g.row.D.Denot g.D.Disk)). recovers k.store db) c.self.view_is (c.in_ok-checkpoint.ensures.quiet.outcomes db may))

pub returns-clause-empty : goal.returns-clause-empty
returns-clause-empty g c =
    subst (λ (k : Kept (FileStore g.row.D.Denot g.D.Disk)). ¬ HasSpilled c.args.self.store → log_frames k.store ≡ 0) (sym c.over.ensures)
    (subst (λ (k : Kept (FileStore g.row.D.Denot g.D.Disk)). ¬ HasSpilled k.store → log_frames c.checkpoint.new.self ≡ 0) c.self.view_is c.in_ok-checkpoint.ensures.moved)
