use Rattle.st_world_parts.specs.Seen.{way_seen, told_seen}
use Rattle.st_world.specs.Left.{in_world}
use Rattle.st_world.proofs.Reached.{faults}
use Rattle.st_world.proofs.trace.Trace.fault.Goals as goal

pub returns-clause-met : goal.returns-clause-met
returns-clause-met g c = faults c.back.result told_seen (in_world c.args.self.now c.args.links.now) (in_world c.back.new.self c.back.new.links) c.args.link (way_seen c.args.way) c.args.which c.args.now c.back.ensures.met
