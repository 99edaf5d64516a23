use Rattle.std.proofs.Common.{arith}
use Rattle.st_queues.proofs.Steps.{publishes}
use Rattle.st_queues.proofs.table.put.Goals as goal

pub store-requires : goal.store-requires
store-requires g c = let r = c.requires in (r.0, omega (arith, r.1, r.3), publishes _ _ _ _ _ r.2 r.3 r.4 r.5)
