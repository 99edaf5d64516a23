use Rattle.st_world_parts.specs.Sides.{Client, Server}
use Rattle.st_world.proofs.Meets.{raise_meets}
use Rattle.st_world.proofs.trace.Trace.raise.Goals as goal

pub returns-in-Client-clause-met : goal.returns-in-Client-clause-met
returns-in-Client-clause-met g c = λ ls. rw c.in-Client.is (raise_meets _ _ _ _ _ c.self.view_is Client ls c.args.stream c.args.amount _ _ c.raise_at.ensures)

pub returns-in-Server-clause-met : goal.returns-in-Server-clause-met
returns-in-Server-clause-met g c = λ ls. rw c.in-Server.is (raise_meets _ _ _ _ _ c.self.view_is Server ls c.args.stream c.args.amount _ _ c.raise_at-in-Server.ensures)
