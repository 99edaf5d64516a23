use Rattle.std.proofs.Common.{◌≡◌, ◌++◌, false, List, Some, IsSome}
use Rattle.sqlite_value.specs.Order.{Row}
use Rattle.sqlite_trees.specs.View.{IsClean, IsQuiet}
use Rattle.st_hop_books.specs.Payments.{HasNone}
use Rattle.st_hop_books.specs.Table.{payment_tree}
use Rattle.st_hop_books.specs.Standing.{Keeps}
use Rattle.st_hop_books.proofs.looking.find.Given as goal

abbrev pub invariant-rows : goal.invariant-rows
invariant-rows g l =
    let old = g.S.Store.view l.fn.store in
    (IsClean (g.S.Store.view l.store) → ((done : List Row) × (left : List Row) × ((g.S.Store.view l.store).cursors 0 ≡ Some left) × (old.trees payment_tree ≡ done ++ left) × HasNone l.fn.name l.fn.paid l.fn.adjusted done))
    × IsSome ((g.S.Store.view l.store).cursors 0)
    × (IsClean (g.S.Store.view l.store) → old.is_broken ≡ false)
    × Keeps old (g.S.Store.view l.store)
    × IsQuiet g.S.Store.view g.S.Store.faults g.S.Store.recovers g.S.Store.is_shielded l.fn.store l.store
