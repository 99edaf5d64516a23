use Rattle.std.proofs.Common.{◌≡◌, vec_len}
use Rattle.st_queues.specs.Lanes.{AllFresh}
use Rattle.st_queues.proofs.rings.write_lanes.Given as goal

abbrev pub invariant-loop-ring : goal.invariant-loop-ring
invariant-loop-ring g l = (vec_len l.lanes ≡ l.ring) × AllFresh l.lanes.items
