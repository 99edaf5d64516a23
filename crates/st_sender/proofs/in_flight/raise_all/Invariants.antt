use Rattle.std.proofs.Common.{ℕ, ◌≡◌, ◌<◌, max, drop, slice_index}
use Rattle.st_sender.specs.Flights.{highest_end}
use Rattle.st_sender.specs.Shown.{kept}
use Rattle.st_sender.specs.InFlight.{AreSmall}
use Rattle.st_sender.proofs.in_flight.raise_all.Given as goal

abbrev pub invariant-loop-frame : goal.invariant-loop-frame
invariant-loop-frame l =
    ((k : ℕ) → k < 65 → max (slice_index l.ends k) (highest_end k (kept (drop l.frame-index l.frames))) ≡ max (slice_index l.fn.ends k) (highest_end k (kept l.frames)))
    × (AreSmall l.fn.ends → AreSmall l.ends)
