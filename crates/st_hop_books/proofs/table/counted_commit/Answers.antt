use Rattle.std.proofs.Common.{arith}
use Rattle.sqlite_trees.specs.View.{IsClean}
use Rattle.st_hop_books.proofs.Steps.{open_sound}
use Rattle.st_hop_books.proofs.Counting.{set_reads, reads_keep}
use Rattle.st_hop_books.proofs.table.counted_commit.Goals as goal

pub returns-clause-same : goal.returns-clause-same
returns-clause-same g c clean =
    let sets = c.in_ok-set_version.ensures.ok clean in
    let old = g.S.Store.view c.args.store.now in
    let early : IsClean old = omega (arith, c.set_version.ensures.quiet.clean, clean) in
    set_reads old _ _ _ sets (c.version-starts.ensures early (open_sound old (g.met.S.Store.broken_if_shut c.args.store.now) sets.sound))

pub returns-clause-keeps : goal.returns-clause-keeps
returns-clause-keeps g c clean =
    let sets = c.in_ok-set_version.ensures.ok clean in
    let old = g.S.Store.view c.args.store.now in
    let early : IsClean old = omega (arith, c.set_version.ensures.quiet.clean, clean) in
    reads_keep old _ (set_reads old _ _ _ sets (c.version-starts.ensures early (open_sound old (g.met.S.Store.broken_if_shut c.args.store.now) sets.sound)))
