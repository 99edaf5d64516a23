use Rattle.std.proofs.Common.{◌≡◌, ℕ, [], ◌∷◌}
use Rattle.st_world_parts.specs.Sides.{Client}
use Rattle.st_world_parts.specs.Events.{AnswerArrives}
use Rattle.st_world_quiet.specs.Worlds.{Met}
use Rattle.st_world_quiet.specs.LostWorlds as worlds
use Rattle.st_world_quiet.specs.LostWorlds.{course_at, following, gives_by, going_by, puts_by}
use Rattle.st_world_quiet.specs.Fates.{courses_of}
use Rattle.st_world_quiet.proofs.Fates.{arrives_then}
use Rattle.st_world_quiet.proofs.PlayedRuns.{err_after, met_on, ok_as}
use Rattle.st_world_quiet.proofs.following.arrive.Goals as goal

pub returns-clause-met : goal.returns-clause-met
returns-clause-met g c =
    let p : ℕ → ℕ = puts_by (course_at (courses_of c.args.fates.now)) c.args.sends in
    let q : ℕ → ℕ = gives_by c.args.all (course_at (courses_of c.args.fates.now)) c.args.sends in
    ok_as c.take.result (Met c.go.new.world (AnswerArrives 0 Client c.answer-given.result c.args.now ∷ []) c.take.new.world) (Met c.args.world.now (following worlds.Arrives p q c.args.all c.args.now) c.take.new.world)
    (arrives_then p q c.args.all c.answer-given.result c.args.now c.args.world.now c.go.new.world c.take.new.world c.answer-given.ensures c.in_ok-go.ensures.met) c.take.ensures.met

pub returns-clause-stops : goal.returns-clause-stops
returns-clause-stops g c =
    let p : ℕ → ℕ = puts_by (course_at (courses_of c.args.fates.now)) c.args.sends in
    let q : ℕ → ℕ = gives_by c.args.all (course_at (courses_of c.args.fates.now)) c.args.sends in
    err_after ⊥ ⊥ c.take.result c.args.world.now c.go.new.world c.take.new.world (met_on (going_by p q 0 c.args.all c.args.now) c.args.world.now c.go.new.world c.in_ok-go.ensures.met) c.take.ensures.stops
