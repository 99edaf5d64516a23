use Rattle.std.proofs.Common.{arith}
use Rattle.std.proofs.lemmas.Grind.{common_steps}
use Rattle.st_world_parts.proofs.AllFrom.{log_at}
use Rattle.st_world_parts.proofs.ledger.StreamLogs.get.Goals as goal

pub returns-then-slot : goal.returns-then-slot
returns-then-slot g c = let is = log_at c.self.inside.slots.items c.args.stream in grind (arith, common_steps, is)

pub returns-else-slot : goal.returns-else-slot
returns-else-slot g c = let is = log_at c.self.inside.slots.items c.args.stream in grind (arith, common_steps, is)
