use Rattle.std.proofs.Common.{arith}
use Rattle.st_queues.proofs.Steps.{splits}
use Rattle.st_queues.proofs.table.split.Goals as goal

pub split_seat-requires : goal.split_seat-requires
split_seat-requires g c = let r = c.requires in (r.0, omega (arith, r.1), splits _ _)
