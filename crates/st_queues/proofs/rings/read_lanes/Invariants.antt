use Rattle.std.proofs.Common.{◌≡◌, vec_len}
use Rattle.st_queues.specs.Lanes.{AllFreshReads}
use Rattle.st_queues.proofs.rings.read_lanes.Given as goal

abbrev pub invariant-loop-stream : goal.invariant-loop-stream
invariant-loop-stream g l = (vec_len l.lanes ≡ l.stream) × AllFreshReads l.lanes.items
