use Rattle.std.proofs.Common.{ℕ, ◌<◌}
use Rattle.st_end.specs.declared.flight.Open.{Open}
use Rattle.host_objects.specs.Ends.{IsFlight}
use Rattle.host_objects.proofs.end.place_of.Given as goal

abbrev pub invariant-loop-place : goal.invariant-loop-place
invariant-loop-place l = (k : ℕ) (f : Open) → k < l.place → ¬ IsFlight l.state l.kept l.sequence k f
