use Rattle.std.proofs.Common.{◌≡◌, fold, take}
use Rattle.sqlite_trees.specs.View.{IsClean, IsQuiet}
use Rattle.st_hop_books.specs.Sums.{booked}
use Rattle.st_hop_books.specs.Fulfillments.{last_after}
use Rattle.st_hop_books.specs.Standing.{Enters, Keeps}
use Rattle.st_hop_books.proofs.table.enter_all.Given as goal

abbrev pub invariant-loop-booking : goal.invariant-loop-booking
invariant-loop-booking g l =
    (l.draft ≡ booked l.fn.draft (take l.booking-index l.bookings))
    × (l.last ≡ fold last_after l.fn.last (take l.booking-index l.bookings))
    × (IsClean (g.S.Store.view l.store) → Enters (g.S.Store.view l.fn.store) (g.S.Store.view l.store) l.names l.fn.draft l.draft l.fn.last (take l.booking-index l.bookings))
    × Keeps (g.S.Store.view l.fn.store) (g.S.Store.view l.store)
    × IsQuiet g.S.Store.view g.S.Store.faults g.S.Store.recovers g.S.Store.is_shielded l.fn.store l.store
