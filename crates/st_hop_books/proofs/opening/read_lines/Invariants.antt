use Rattle.std.proofs.Common.{◌≡◌, ◌++◌, List, Some, IsSome, length}
use Rattle.sqlite_value.specs.Order.{Row}
use Rattle.sqlite_trees.specs.View.{IsClean, IsQuiet}
use Rattle.st_hop_books.specs.Table.{lines, AreDistinct}
use Rattle.st_hop_books.specs.Standing.{ReadsOnly}
use Rattle.st_hop_books.proofs.opening.read_lines.Given as goal

abbrev pub invariant-rows : goal.invariant-rows
invariant-rows g l =
    let old = g.S.Store.view l.fn.store in
    (IsClean (g.S.Store.view l.store) → ((left : List Row) × ((g.S.Store.view l.store).cursors 0 ≡ Some left) × (old.trees 0 ≡ lines l.names.items l.amounts.items ++ left)))
    × IsSome ((g.S.Store.view l.store).cursors 0)
    × (IsClean (g.S.Store.view l.store) → ReadsOnly old (g.S.Store.view l.store))
    × IsQuiet g.S.Store.view g.S.Store.faults g.S.Store.recovers g.S.Store.is_shielded l.fn.store l.store
    × (length l.names.items ≡ length l.amounts.items)
    × AreDistinct l.names.items
