use Rattle.std.proofs.Common.{◌≡◌, map, take}
use Rattle.ilpstream_ledger.specs.Placed.{in_books}
use Rattle.ilpstream_ledger.proofs.placed.Placed.all_in_books.Given as goal

abbrev pub invariant-loop-booking : goal.invariant-loop-booking
invariant-loop-booking g l = l.all.items ≡ map (in_books l.self) (take l.booking-index l.bookings)
