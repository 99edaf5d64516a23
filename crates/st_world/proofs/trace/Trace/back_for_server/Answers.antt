use Rattle.std.proofs.Common.{◌≡◌, ◌+◌, arith}
use Rattle.st_links.specs.Outcomes.{outcome_seen}
use Rattle.st_world_parts.specs.Seen.{told_seen}
use Rattle.st_world.specs.Left.{in_world}
use Rattle.st_world.proofs.Reached.{backs_below}
use Rattle.st_world.proofs.trace.Trace.back_for_server.Goals as goal

pub returns-clause-met : goal.returns-clause-met
returns-clause-met g c =
    let w = in_world c.args.self.now c.args.links.now in
    let next : c.args.link ≡ c.in-Some.hop + 1 = omega (arith, c.in-Some.ensures) in
    backs_below c.back_up.result told_seen w (in_world c.back_up.new.self c.back_up.new.links) c.args.link c.in-Some.hop c.args.which c.args.now c.args.put.now (outcome_seen c.args.outcome) next c.back_up.ensures.met
