use Rattle.std.proofs.Common.{refl}
use Rattle.st_world_quiet.proofs.PlayedRuns.{still}
use Rattle.st_world_quiet.proofs.lossy_run.lossy.Goals as goal

pub returns-clause-part : goal.returns-clause-part
returns-clause-part g c = (c.args.world, still c.args.world c.args.world refl, c.into_trace.ensures.trace)
