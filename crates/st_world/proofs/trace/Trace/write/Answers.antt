use Rattle.st_world_parts.specs.Sides.{Client, Server}
use Rattle.st_world.proofs.Meets.{write_meets}
use Rattle.st_world.proofs.trace.Trace.write.Goals as goal

pub returns-in_ok-told-in-Client-clause-met : goal.returns-in_ok-told-in-Client-clause-met
returns-in_ok-told-in-Client-clause-met g c = λ ls. rw (c.in-Client.is, c.note.ensures.told) (write_meets _ _ _ _ _ c.self.view_is Client ls _ _ _ _ _ _ c.in_ok-told-in-Client.ensures.met c.note.ensures.refused)

pub returns-in_ok-told-in-Server-clause-met : goal.returns-in_ok-told-in-Server-clause-met
returns-in_ok-told-in-Server-clause-met g c = λ ls. rw (c.in-Server.is, c.note-in-Server.ensures.told) (write_meets _ _ _ _ _ c.self.view_is Server ls _ _ _ _ _ _ c.in_ok-told-in-Server.ensures.met c.note-in-Server.ensures.refused)
