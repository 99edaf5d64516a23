use Rattle.std.proofs.Common.{◌≡◌}
use Rattle.st_sender.proofs.Places.{NoneBefore}
use Rattle.st_sender.proofs.load.take_flight.Given as goal

abbrev pub invariant-loop-i : goal.invariant-loop-i
invariant-loop-i g l = (l.flights.items ≡ l.initial.flights.items) × NoneBefore l.initial.flights.items l.i l.sequence
