use Rattle.st_world_parts.specs.Sides.{Client, Server}
use Rattle.st_world.proofs.Meets.{back_end_meets}
use Rattle.st_world.proofs.trace.Trace.back_end.Goals as goal

pub returns-in-Client-clause-met : goal.returns-in-Client-clause-met
returns-in-Client-clause-met g c = rw c.in-Client.is (back_end_meets _ _ _ _ _ c.self.view_is Client _ _ _ _ c.args.now c.args.put.now _ _ _ _ c.back_to_end.ensures)

pub returns-in-Server-clause-met : goal.returns-in-Server-clause-met
returns-in-Server-clause-met g c = rw c.in-Server.is (back_end_meets _ _ _ _ _ c.self.view_is Server _ _ _ _ c.args.now c.args.put.now _ _ _ _ c.back_to_end-in-Server.ensures)
