use Rattle.std.proofs.Common.{[], ◌∷◌, ◌+◌, ◌-◌}
use Rattle.st_world_parts.specs.Sides.{Client}
use Rattle.st_world_parts.specs.Events.{AnswerArrives, Arrive}
use Rattle.st_world_quiet.specs.Worlds.{Met, going_over}
use Rattle.st_world_quiet.specs.Playing.{Stops}
use Rattle.st_world_quiet.proofs.Joins.{go_last, go_more}
use Rattle.st_world_quiet.proofs.PlayedRuns.{err_after, err_end, met_on, ok_as, stops_after, then}
use Rattle.st_world_quiet.proofs.rounds.+go_over.Goals as goal

pub returns-then-hops-eq0-clause-met : goal.returns-then-hops-eq0-clause-met
returns-then-hops-eq0-clause-met g t c = go_last c.args.link c.args.hops c.args.which c.args.now c.args.world.now c.take.new.world c.if-hops-eq0.true c.in_ok-take.ensures.met

pub returns-in_err-go_over-clause-stops : goal.returns-in_err-go_over-clause-stops
returns-in_err-go_over-clause-stops g t c =
    err_end (λ e. Stops ⊥ ⊥ e c.args.world.now c.go_over.new.world) c.from_residual-in_err-go_over.result c.in_err-go_over.field-0.0 c.from_residual-in_err-go_over.ensures.1
    (stops_after ⊥ ⊥ c.in_err-go_over.field-0.0 c.args.world.now c.take.new.world c.go_over.new.world (met_on (Arrive c.args.link Client c.args.which c.args.now ∷ []) c.args.world.now c.take.new.world c.in_ok-take.ensures.met) c.in_err-go_over.ensures.stops)

pub returns-clause-met : goal.returns-clause-met
returns-clause-met g t c =
    ok_as c.take-2.result (Met c.go_over.new.world (AnswerArrives (c.args.link + 1) Client c.args.which c.args.now ∷ []) c.take-2.new.world) (Met c.args.world.now (going_over c.args.link c.args.hops c.args.which c.args.now) c.take-2.new.world)
    (go_more c.args.link c.args.hops c.args.which c.args.now c.args.world.now c.take.new.world c.go_over.new.world c.take-2.new.world c.if-hops-eq0.false c.in_ok-take.ensures.met c.in_ok-go_over.ensures.met) c.take-2.ensures.met

pub returns-clause-stops : goal.returns-clause-stops
returns-clause-stops g t c =
    err_after ⊥ ⊥ c.take-2.result c.args.world.now c.go_over.new.world c.take-2.new.world
    (then c.args.world.now c.take.new.world c.go_over.new.world (met_on (Arrive c.args.link Client c.args.which c.args.now ∷ []) c.args.world.now c.take.new.world c.in_ok-take.ensures.met)
    (met_on (going_over (c.args.link + 1) (c.args.hops - 1) c.args.which c.args.now) c.take.new.world c.go_over.new.world c.in_ok-go_over.ensures.met)) c.take-2.ensures.stops
