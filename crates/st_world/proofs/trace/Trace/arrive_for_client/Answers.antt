use Rattle.std.proofs.Common.{◌≡◌, ◌+◌, arith}
use Rattle.st_world_parts.specs.Seen.{told_seen}
use Rattle.st_world_parts.specs.Sides.{Client, Server}
use Rattle.st_world_parts.specs.State.{AtEnd}
use Rattle.st_world.specs.Left.{in_world}
use Rattle.st_world.proofs.Reached.{meets_there, meets_below, down_end}
use Rattle.st_world.proofs.trace.Trace.arrive_for_client.Goals as goal

pub returns-in_default-clause-met : goal.returns-in_default-clause-met
returns-in_default-clause-met g c =
    let w = in_world c.args.self.now c.args.links.now in
    let first : c.args.link ≡ 0 = omega (arith, c.in_default.ensures) in
    meets_there c.arrive_client.result told_seen w (in_world c.arrive_client.new.self c.arrive_client.new.links) c.args.link Server c.args.which c.args.now c.args.put.now (AtEnd Client) (down_end w c.args.link first) c.arrive_client.ensures.met

pub returns-clause-met : goal.returns-clause-met
returns-clause-met g c =
    let w = in_world c.args.self.now c.args.links.now in
    let next : c.args.link ≡ c.in-Some.hop + 1 = omega (arith, c.in-Some.ensures) in
    meets_below c.arrive_down.result told_seen w (in_world c.arrive_down.new.self c.arrive_down.new.links) c.args.link c.in-Some.hop c.args.which c.args.now c.args.put.now next c.arrive_down.ensures.met
