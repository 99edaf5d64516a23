use Rattle.std.proofs.Common.{arith}
use Rattle.std.proofs.lemmas.Result.{on_ok_weaker}
use Rattle.sqlite_trees.specs.View.{IsClean}
use Rattle.st_hop_books.proofs.MadeLemmas.{lays}
use Rattle.st_hop_books.proofs.laying.create_tables.Goals as goal

pub returns-clause-laid : goal.returns-clause-laid
returns-clause-laid g c =
    let was = g.S.Store.view c.args.store.now in
    let one = g.S.Store.view c.create_table.new.store in
    let two = g.S.Store.view c.create_table-2.new.store in
    let three = g.S.Store.view c.create_stamp.new.store in
    let new = g.S.Store.view c.create_table-3.new.store in
    on_ok_weaker c.create_table-3.result (λ made now.
    let third : IsClean three = omega (arith, c.create_table-3.ensures.quiet.clean, now) in
    let second : IsClean two = omega (arith, c.create_stamp.ensures.quiet.clean, third) in
    let first : IsClean one = omega (arith, c.create_table-2.ensures.quiet.clean, second) in
    let early : IsClean was = omega (arith, c.create_table.ensures.quiet.clean, first) in
    lays was one two three new c.requires.stamps.0 c.args.text.now c.requires.stamps.1 (c.requires.unlaid early) (c.in_ok-create_table.ensures.made first) (c.in_ok-create_table-2.ensures.made second) (c.in_ok-create_stamp.ensures.made third) (made now)) c.create_table-3.ensures.made
