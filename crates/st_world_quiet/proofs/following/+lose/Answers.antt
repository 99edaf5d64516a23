use Rattle.std.proofs.Common.{◌≡◌, ℕ, [], ◌∷◌, ◌+◌, ◌-◌}
use Rattle.st_world_parts.specs.Sides.{Client}
use Rattle.st_world_parts.specs.Events.{Arrive, Fault}
use Rattle.st_world_quiet.specs.Worlds.{Met}
use Rattle.st_world_quiet.specs.LostWorlds.{course_at, losing_by, puts_by}
use Rattle.st_world_quiet.specs.Playing.{Stops}
use Rattle.st_world_quiet.specs.Fates.{courses_of}
use Rattle.st_world_quiet.proofs.Fates.{losing_last, losing_more, losing_none}
use Rattle.st_world_quiet.proofs.PlayedRuns.{err_after, err_end, met_on, ok_as, stops_after, then}
use Rattle.st_world_quiet.proofs.following.+lose.Goals as goal

pub returns-then-past-eq0-clause-met : goal.returns-then-past-eq0-clause-met
returns-then-past-eq0-clause-met g t c =
    let p : ℕ → ℕ = puts_by (course_at (courses_of c.args.fates.now)) c.args.sends in
    losing_none p c.args.link c.args.past c.args.hops c.args.now c.args.world.now c.if-past-eq0.true

pub returns-then-hops-eq0-clause-met : goal.returns-then-hops-eq0-clause-met
returns-then-hops-eq0-clause-met g t c =
    let p : ℕ → ℕ = puts_by (course_at (courses_of c.args.fates.now)) c.args.sends in
    losing_last p c.args.link c.args.past c.args.hops c.args.now c.args.world.now c.if-past-eq0.false c.if-hops-eq0.true

pub returns-in_err-lose-clause-stops : goal.returns-in_err-lose-clause-stops
returns-in_err-lose-clause-stops g t c =
    err_end (λ e. Stops ⊥ ⊥ e c.args.world.now c.lose.new.world) c.from_residual-in_err-lose.result c.in_err-lose.field-0.0 c.from_residual-in_err-lose.ensures.1
    (stops_after ⊥ ⊥ c.in_err-lose.field-0.0 c.args.world.now c.take.new.world c.lose.new.world (met_on (Arrive c.args.link Client c.prepare-put.result c.args.now ∷ []) c.args.world.now c.take.new.world c.in_ok-take.ensures.met) c.in_err-lose.ensures.stops)

pub returns-clause-met : goal.returns-clause-met
returns-clause-met g t c =
    let p : ℕ → ℕ = puts_by (course_at (courses_of c.args.fates.now)) c.args.sends in
    ok_as c.take-2.result (Met c.lose.new.world (Fault (c.args.link + 1) Client c.prepare-next.result c.args.now ∷ []) c.take-2.new.world) (Met c.args.world.now (losing_by p c.args.link c.args.past c.args.hops c.args.now) c.take-2.new.world)
    (losing_more p c.args.link c.args.past c.args.hops c.prepare-put.result c.prepare-next.result c.args.now c.args.world.now c.take.new.world c.lose.new.world c.take-2.new.world c.if-past-eq0.false c.if-hops-eq0.false c.prepare-put.ensures c.prepare-next.ensures c.in_ok-take.ensures.met c.in_ok-lose.ensures.met) c.take-2.ensures.met

pub returns-clause-stops : goal.returns-clause-stops
returns-clause-stops g t c =
    let p : ℕ → ℕ = puts_by (course_at (courses_of c.args.fates.now)) c.args.sends in
    err_after ⊥ ⊥ c.take-2.result c.args.world.now c.lose.new.world c.take-2.new.world
    (then c.args.world.now c.take.new.world c.lose.new.world (met_on (Arrive c.args.link Client c.prepare-put.result c.args.now ∷ []) c.args.world.now c.take.new.world c.in_ok-take.ensures.met)
    (met_on (losing_by p (c.args.link + 1) (c.args.past - 1) (c.args.hops - 1) c.args.now) c.take.new.world c.lose.new.world c.in_ok-lose.ensures.met)) c.take-2.ensures.stops
