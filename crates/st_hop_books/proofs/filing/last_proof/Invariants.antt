use Rattle.std.proofs.Common.{◌≡◌, ◌++◌, List, Some, IsSome}
use Rattle.sqlite_value.specs.Order.{Row}
use Rattle.sqlite_trees.specs.View.{IsClean, IsQuiet}
use Rattle.st_hop_books.specs.Fulfillments.{proof_tree, last_id, AreProofs}
use Rattle.st_hop_books.specs.Standing.{ReadsOnly}
use Rattle.st_hop_books.proofs.filing.last_proof.Given as goal

abbrev pub invariant-rows : goal.invariant-rows
invariant-rows g l =
    let old = g.S.Store.view l.fn.store in
    (IsClean (g.S.Store.view l.store) → ((done : List Row) × (left : List Row) × ((g.S.Store.view l.store).cursors 0 ≡ Some left) × (old.trees proof_tree ≡ done ++ left) × (last_id done ≡ l.last) × AreProofs done))
    × IsSome ((g.S.Store.view l.store).cursors 0)
    × (IsClean (g.S.Store.view l.store) → ReadsOnly old (g.S.Store.view l.store))
    × IsQuiet g.S.Store.view g.S.Store.faults g.S.Store.recovers g.S.Store.is_shielded l.fn.store l.store
