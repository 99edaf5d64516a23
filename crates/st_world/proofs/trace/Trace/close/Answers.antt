use Rattle.st_world_parts.specs.Sides.{Client, Server}
use Rattle.st_world.proofs.Meets.{close_meets}
use Rattle.st_world.proofs.trace.Trace.close.Goals as goal

pub returns-in-Client-clause-met : goal.returns-in-Client-clause-met
returns-in-Client-clause-met g c = λ ls. rw (c.in-Client.is, c.note.ensures.told) (close_meets _ _ _ _ _ c.self.view_is Client ls _ _ _ _ _ c.close_at-told.ensures.met c.note.ensures.refused)

pub returns-in-Server-clause-met : goal.returns-in-Server-clause-met
returns-in-Server-clause-met g c = λ ls. rw (c.in-Server.is, c.note-in-Server.ensures.told) (close_meets _ _ _ _ _ c.self.view_is Server ls _ _ _ _ _ c.close_at-told-in-Server.ensures.met c.note-in-Server.ensures.refused)
