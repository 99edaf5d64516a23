use Rattle.std.proofs.Common.{arith}
use Rattle.st_queues.proofs.Steps.{looks}
use Rattle.st_queues.proofs.table.look.Goals as goal

pub load-requires : goal.load-requires
load-requires g c = (c.requires.0, omega (arith, c.requires.1, c.requires.2), looks _ _ _ _ c.requires.2)
