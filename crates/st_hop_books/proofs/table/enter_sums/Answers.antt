use Rattle.std.proofs.Common.{arith}
use Rattle.sqlite_trees.specs.View.{IsClean}
use Rattle.st_hop_books.proofs.Steps.{draws_then}
use Rattle.st_hop_books.proofs.table.enter_sums.Goals as goal

pub returns-clause-drawn : goal.returns-clause-drawn
returns-clause-drawn g c clean =
    let mid = g.S.Store.view c.set_line.new.store in
    let early : IsClean mid = omega (arith, c.set_line-2.ensures.quiet.clean, clean) in
    draws_then (g.S.Store.view c.args.store.now) mid (g.S.Store.view c.set_line-2.new.store) c.args.names.now c.args.draft.now c.set_line.new.draft c.set_line-2.new.draft
    (c.in_ok-set_line.ensures.drawn early) (c.in_ok-set_line-2.ensures.drawn clean)
