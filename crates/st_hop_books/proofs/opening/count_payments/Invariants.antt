use Rattle.std.proofs.Common.{◌≡◌, ◌++◌, List, Some, IsSome}
use Rattle.sqlite_value.specs.Order.{Row}
use Rattle.sqlite_trees.specs.View.{IsClean, IsQuiet}
use Rattle.st_hop_books.specs.Payments.{ArePayments}
use Rattle.st_hop_books.specs.Trail.{paid_alone, tally_of}
use Rattle.st_hop_books.specs.Table.{payment_tree}
use Rattle.st_hop_books.specs.Standing.{ReadsOnly}
use Rattle.st_hop_books.proofs.opening.count_payments.Given as goal

abbrev pub invariant-rows : goal.invariant-rows
invariant-rows g l =
    let old = g.S.Store.view l.fn.store in
    (IsClean (g.S.Store.view l.store) → ((done : List Row) × (left : List Row) × ((g.S.Store.view l.store).cursors 0 ≡ Some left) × (old.trees payment_tree ≡ done ++ left) × (tally_of (paid_alone done) ≡ record { lines = l.lines; latest = l.latest; filed = 0 }) × ArePayments done))
    × IsSome ((g.S.Store.view l.store).cursors 0)
    × (IsClean (g.S.Store.view l.store) → ReadsOnly old (g.S.Store.view l.store))
    × IsQuiet g.S.Store.view g.S.Store.faults g.S.Store.recovers g.S.Store.is_shielded l.fn.store l.store
