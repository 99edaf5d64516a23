use Rattle.st_world_parts.specs.Sides.{Client, Server}
use Rattle.st_world.proofs.Meets.{end_meets}
use Rattle.st_world.proofs.trace.Trace.arrive_client.Goals as goal

pub returns-clause-met : goal.returns-clause-met
returns-clause-met g c = rw c.note.ensures.told (end_meets _ _ _ _ _ c.self.view_is Client _ c.args.link Server _ _ _ c.args.put.now _ _ _ _ c.bytes.ensures c.in_ok-told.ensures.met c.note.ensures.refused)
