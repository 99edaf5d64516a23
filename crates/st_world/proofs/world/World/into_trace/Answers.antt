use Rattle.std.proofs.Common.{subst}
use Rattle.st_world_parts.specs.State.{World}
use Rattle.st_world.specs.Holds.{Holds}
use Rattle.st_world.specs.Left.{in_world}
use Rattle.st_world.proofs.world.World.into_trace.Goals as goal

pub returns-clause-holds : goal.returns-clause-holds
returns-clause-holds g c =
    let run = c.self.invariant.1 in subst (λ (w : World). Holds w) c.self.view_is (c.every_run_holds.ensures.holds run.0 run.1 (in_world c.self.inside.trace c.self.inside.links.items) run.2)
