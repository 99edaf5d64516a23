use Rattle.std.proofs.Common.{◌≡◌, ◌++◌, Some, map, take, drop}
use Rattle.st_links.proofs.booked.hand_out.Given as goal

abbrev pub invariant-loop-at : goal.invariant-loop-at
invariant-loop-at l = l.tokens ≡ map Some (take l.at l.bookings) ++ drop l.at l.fn.tokens
