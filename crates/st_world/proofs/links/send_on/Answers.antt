use Rattle.std.proofs.lemmas.Grind.{common_steps}
use Rattle.std.proofs.Common.{refl, ap, arith}
use Rattle.st_world_parts.specs.Seen.{way_seen, told_seen}
use Rattle.st_world_parts.specs.Sides.{Client, Server}
use Rattle.st_world.proofs.OverLinks.{sends_over, one_same}
use Rattle.st_world.proofs.links.send_on.Goals as goal

pub returns-in-ToServer-clause-sent : goal.returns-in-ToServer-clause-sent
returns-in-ToServer-clause-sent g c =
    sends_over c.args.links.now c.args.link _ _ _ Client c.requires c.over.view_is c.send_from.result told_seen (way_seen c.args.way) c.args.iv c.args.now c.args.party.now c.send_from.new.party c.send_from.new.lane (ap way_seen c.in-ToServer.is) c.send_from.ensures.sent refl

pub returns-in-ToClient-clause-sent : goal.returns-in-ToClient-clause-sent
returns-in-ToClient-clause-sent g c =
    sends_over c.args.links.now c.args.link _ _ _ Server c.requires c.over.view_is c.send_from-in-ToClient.result told_seen (way_seen c.args.way) c.args.iv c.args.now c.args.party.now c.send_from-in-ToClient.new.party c.send_from-in-ToClient.new.lane (ap way_seen c.in-ToClient.is) c.send_from-in-ToClient.ensures.sent refl

pub bounds-links-link : goal.bounds-links-link
bounds-links-link g c = c.requires

pub offset_bounds-links-link : goal.offset_bounds-links-link
offset_bounds-links-link g c = grind (arith, common_steps)

pub returns-in-ToServer-clause-same_links : goal.returns-in-ToServer-clause-same_links
returns-in-ToServer-clause-same_links g c = one_same c.args.links.now c.args.link _ _ _ Client c.requires c.over.view_is c.send_from.result c.send_from.new.lane refl c.send_from.ensures.same_lane

pub returns-in-ToClient-clause-same_links : goal.returns-in-ToClient-clause-same_links
returns-in-ToClient-clause-same_links g c = one_same c.args.links.now c.args.link _ _ _ Server c.requires c.over.view_is c.send_from-in-ToClient.result c.send_from-in-ToClient.new.lane refl c.send_from-in-ToClient.ensures.same_lane
