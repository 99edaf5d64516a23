use Rattle.std.proofs.Common.{arith}
use Rattle.st_sender.proofs.in_flight.InFlight.end.Goals as goal

pub offset_bounds-self-inside-number : goal.offset_bounds-self-inside-number
offset_bounds-self-inside-number g c = omega (arith, c.if-number-lt65.true)

pub bounds-self-inside-number : goal.bounds-self-inside-number
bounds-self-inside-number g c = omega (arith, c.if-number-lt65.true)
