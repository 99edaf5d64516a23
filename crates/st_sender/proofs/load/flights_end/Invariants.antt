use Rattle.std.proofs.Common.{◌≡◌, ◌<◌, ◌^◌, max, drop}
use Rattle.st_sender.specs.Flights.{flying_end}
use Rattle.st_sender.proofs.load.flights_end.Given as goal

abbrev pub invariant-loop-flight : goal.invariant-loop-flight
invariant-loop-flight g l = (max l.top (flying_end l.number (drop l.flight-index l.flights)) ≡ flying_end l.number l.flights) × (l.top < 2 ^ 65)
