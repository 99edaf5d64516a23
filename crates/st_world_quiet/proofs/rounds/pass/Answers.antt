use Rattle.std.proofs.Common.{[], ◌∷◌}
use Rattle.st_world_parts.specs.Sides.{Client}
use Rattle.st_world_parts.specs.Events.{AnswerArrives}
use Rattle.st_world_quiet.specs.Worlds.{Met, going_over, passing}
use Rattle.st_world_quiet.proofs.Joins.{met_join}
use Rattle.st_world_quiet.proofs.PlayedRuns.{err_after, met_on, ok_as}
use Rattle.st_world_quiet.proofs.rounds.pass.Goals as goal

pub returns-clause-met : goal.returns-clause-met
returns-clause-met g c =
    ok_as c.take.result (Met c.go_over.new.world (AnswerArrives 0 Client c.args.which c.args.now ∷ []) c.take.new.world) (Met c.args.world.now (passing c.args.hops c.args.which c.args.now) c.take.new.world)
    (met_join (going_over 0 c.args.hops c.args.which c.args.now) (AnswerArrives 0 Client c.args.which c.args.now ∷ []) c.args.world.now c.go_over.new.world c.take.new.world c.in_ok-go_over.ensures.met) c.take.ensures.met

pub returns-clause-stops : goal.returns-clause-stops
returns-clause-stops g c =
    err_after ⊥ ⊥ c.take.result c.args.world.now c.go_over.new.world c.take.new.world
    (met_on (going_over 0 c.args.hops c.args.which c.args.now) c.args.world.now c.go_over.new.world c.in_ok-go_over.ensures.met) c.take.ensures.stops
