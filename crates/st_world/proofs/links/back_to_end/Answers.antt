use Rattle.std.proofs.Common.{refl}
use Rattle.st_world_parts.specs.Sides.{Client, Server}
use Rattle.st_world.proofs.OverLinks.{backs_over}
use Rattle.st_world.proofs.links.back_to_end.Goals as goal

pub returns-in-ToServer : goal.returns-in-ToServer
returns-in-ToServer g c = rw c.in-ToServer.is (backs_over _ _ _ _ _ Client c.requires c.over.view_is c.args.put.now _ _ _ _ _ _ c.settle_at_end.ensures refl)

pub returns-in-ToClient : goal.returns-in-ToClient
returns-in-ToClient g c = rw c.in-ToClient.is (backs_over _ _ _ _ _ Server c.requires c.over.view_is c.args.put.now _ _ _ _ _ _ c.settle_at_end-in-ToClient.ensures refl)

pub bounds-links-link : goal.bounds-links-link
bounds-links-link g c = c.requires
