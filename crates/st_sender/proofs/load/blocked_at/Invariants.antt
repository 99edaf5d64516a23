use Rattle.std.proofs.Common.{◌≡◌, drop}
use Rattle.st_sender.specs.Flights.{flight_at}
use Rattle.st_sender.proofs.load.blocked_at.Given as goal

abbrev pub invariant-loop-flight : goal.invariant-loop-flight
invariant-loop-flight g l = flight_at (drop l.flight-index l.flights) l.sequence ≡ flight_at l.flights l.sequence
