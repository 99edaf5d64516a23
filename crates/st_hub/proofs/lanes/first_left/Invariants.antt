use Rattle.std.proofs.Common.{◌≡◌, ◌+◌, ◌<◌, ℕ, true, map}
use Rattle.st_end.specs.Calls.{has_stream}
use Rattle.st_hub.specs.Flow.{outlet_at}
use Rattle.st_hub.specs.Inside.{outlet_of}
use Rattle.st_hub.proofs.lanes.first_left.Given as goal

abbrev pub invariant-loop-place : goal.invariant-loop-place
invariant-loop-place g l = (t : ℕ) → t < l.place → has_stream l.core (t + 1) ≡ true → (outlet_at (map outlet_of l.reads.items) t).out ≡ true
