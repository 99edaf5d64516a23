use Rattle.std.proofs.Common.{ℕ, ◌≡◌, ◌<◌, max, drop, slice_index}
use Rattle.st_sender.specs.Flights.{flying_end}
use Rattle.st_sender.specs.InFlight.{AreSmall}
use Rattle.st_sender.proofs.in_flight.ends_of.Given as goal

abbrev pub invariant-loop-flight : goal.invariant-loop-flight
invariant-loop-flight g l =
    ((k : ℕ) → k < 65 → max (slice_index l.ends k) (flying_end k (drop l.flight-index l.flights)) ≡ flying_end k l.flights)
    × AreSmall l.ends
