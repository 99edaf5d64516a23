use Rattle.std.proofs.Common.{refl, length, ap, arith}
use Rattle.std.proofs.lemmas.Grind.{common_steps}
use Rattle.st_world_parts.specs.Sides.{Client, Server}
use Rattle.st_world.specs.Left.{Left}
use Rattle.st_world.proofs.Meets.{send_meets}
use Rattle.st_world.proofs.trace.Trace.send.Goals as goal

pub returns-in_ok-told-in-Client-clause-met : goal.returns-in_ok-told-in-Client-clause-met
returns-in_ok-told-in-Client-clause-met g c = rw (c.in-Client.is, c.note.ensures.told) (send_meets _ _ _ _ _ c.self.view_is Client _ _ _ _ _ _ _ _ refl c.in_ok-told-in-Client.ensures.sent c.note.ensures.refused)

pub returns-in_ok-told-in-Server-clause-met : goal.returns-in_ok-told-in-Server-clause-met
returns-in_ok-told-in-Server-clause-met g c = rw (c.in-Server.is, c.note-in-Server.ensures.told) (send_meets _ _ _ _ _ c.self.view_is Server _ _ _ _ _ _ _ _ (grind (arith, common_steps)) c.in_ok-told-in-Server.ensures.sent c.note-in-Server.ensures.refused)

pub send_on-requires : goal.send_on-requires
send_on-requires g c = omega (arith, c.requires)

pub send_on-requires-in-Server : goal.send_on-requires-in-Server
send_on-requires-in-Server g c =
    let hops = ap (λ (t : Left). length t.nodes) c.self.view_is in
    omega (arith, c.requires, c.len-hops.ensures, c.self.inside.nodes.ok, hops)
