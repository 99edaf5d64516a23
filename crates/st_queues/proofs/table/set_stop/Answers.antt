use Rattle.std.proofs.Common.{arith}
use Rattle.st_queues.proofs.Steps.{asks}
use Rattle.st_queues.proofs.table.set_stop.Goals as goal

pub store-requires : goal.store-requires
store-requires g c = let r = c.requires in (r.0, omega (arith, r.1), asks _ _ _)
