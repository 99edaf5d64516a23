use Rattle.std.proofs.lemmas.Grind.{common_steps}
use Rattle.std.proofs.Common.{refl, ap, arith}
use Rattle.st_world_parts.specs.Seen.{way_seen, told_seen}
use Rattle.st_world_parts.specs.Sides.{Client, Server}
use Rattle.st_world.proofs.OverLinks.{meets_over, one_same}
use Rattle.st_world.proofs.links.meet_end.Goals as goal

pub returns-in-ToServer-clause-met : goal.returns-in-ToServer-clause-met
returns-in-ToServer-clause-met g c =
    meets_over c.args.links.now c.args.link _ _ _ Client c.requires c.over.view_is c.arrive_at_end.result told_seen (way_seen c.args.way) c.args.which c.args.bytes.now c.args.now c.args.party.now c.arrive_at_end.new.party c.arrive_at_end.new.lane (ap way_seen c.in-ToServer.is) c.arrive_at_end.ensures.met refl

pub returns-in-ToClient-clause-met : goal.returns-in-ToClient-clause-met
returns-in-ToClient-clause-met g c =
    meets_over c.args.links.now c.args.link _ _ _ Server c.requires c.over.view_is c.arrive_at_end-in-ToClient.result told_seen (way_seen c.args.way) c.args.which c.args.bytes.now c.args.now c.args.party.now c.arrive_at_end-in-ToClient.new.party c.arrive_at_end-in-ToClient.new.lane (ap way_seen c.in-ToClient.is) c.arrive_at_end-in-ToClient.ensures.met refl

pub bounds-links-link : goal.bounds-links-link
bounds-links-link g c = c.requires

pub offset_bounds-links-link : goal.offset_bounds-links-link
offset_bounds-links-link g c = grind (arith, common_steps)

pub returns-in-ToServer-clause-same_links : goal.returns-in-ToServer-clause-same_links
returns-in-ToServer-clause-same_links g c = one_same c.args.links.now c.args.link _ _ _ Client c.requires c.over.view_is c.arrive_at_end.result c.arrive_at_end.new.lane refl c.arrive_at_end.ensures.same_lane

pub returns-in-ToClient-clause-same_links : goal.returns-in-ToClient-clause-same_links
returns-in-ToClient-clause-same_links g c = one_same c.args.links.now c.args.link _ _ _ Server c.requires c.over.view_is c.arrive_at_end-in-ToClient.result c.arrive_at_end-in-ToClient.new.lane refl c.arrive_at_end-in-ToClient.ensures.same_lane
