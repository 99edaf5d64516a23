use Rattle.std.proofs.Common.{◌<◌, length, arith}
use Rattle.st_links.specs.Outcomes.{outcome_seen}
use Rattle.st_world_parts.specs.Seen.{told_seen}
use Rattle.st_world_parts.specs.Sides.{Server}
use Rattle.st_world_parts.specs.State.{AtHop}
use Rattle.st_world.specs.Left.{in_world}
use Rattle.st_world.proofs.Reached.{backs_there, up_hop}
use Rattle.st_world.proofs.trace.Trace.back_for_client.Goals as goal

pub returns-clause-met : goal.returns-clause-met
returns-clause-met g c =
    let w = in_world c.args.self.now c.args.links.now in
    let below : c.args.link < length c.args.self.now.nodes = omega (arith, c.if-link-hops.false, c.hops.ensures, c.requires.within, c.requires.links) in
    backs_there c.back_down.result told_seen w (in_world c.back_down.new.self c.back_down.new.links) c.args.link Server c.args.which c.args.now c.args.put.now (outcome_seen c.args.outcome) (AtHop c.args.link) (up_hop w c.args.link below) c.back_down.ensures.met
