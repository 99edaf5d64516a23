use Rattle.std.proofs.Common.{◌≡◌, ◌<◌, ◌∙◌, length, arith}
use Rattle.st_world_parts.specs.Seen.{told_seen}
use Rattle.st_world_parts.specs.Sides.{Client, Server}
use Rattle.st_world_parts.specs.State.{AtEnd, AtHop}
use Rattle.st_world.specs.Left.{in_world}
use Rattle.st_world.proofs.Reached.{meets_there, up_end, up_hop}
use Rattle.st_world.proofs.trace.Trace.arrive_for_server.Goals as goal

pub returns-then-link-hops-clause-met : goal.returns-then-link-hops-clause-met
returns-then-link-hops-clause-met g c =
    let w = in_world c.args.self.now c.args.links.now in
    let at : c.args.link ≡ length c.args.self.now.nodes = c.if-link-hops.true ∙ c.hops.ensures in
    meets_there c.arrive_server.result told_seen w (in_world c.arrive_server.new.self c.arrive_server.new.links) c.args.link Client c.args.which c.args.now c.args.put.now (AtEnd Server) (up_end w c.args.link at) c.arrive_server.ensures.met

pub returns-clause-met : goal.returns-clause-met
returns-clause-met g c =
    let w = in_world c.args.self.now c.args.links.now in
    let below : c.args.link < length c.args.self.now.nodes = omega (arith, c.if-link-hops.false, c.hops.ensures, c.requires.within, c.requires.links) in
    meets_there c.arrive_up.result told_seen w (in_world c.arrive_up.new.self c.arrive_up.new.links) c.args.link Client c.args.which c.args.now c.args.put.now (AtHop c.args.link) (up_hop w c.args.link below) c.arrive_up.ensures.met
