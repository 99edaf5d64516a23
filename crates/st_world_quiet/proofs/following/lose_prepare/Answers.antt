use Rattle.std.proofs.Common.{◌≡◌, ℕ, [], ◌∷◌}
use Rattle.st_world_parts.specs.Sides.{Client}
use Rattle.st_world_parts.specs.Events.{Fault}
use Rattle.st_world_quiet.specs.Worlds.{Met}
use Rattle.st_world_quiet.specs.LostWorlds as worlds
use Rattle.st_world_quiet.specs.LostWorlds.{course_at, following, gives_by, losing_by, puts_by}
use Rattle.st_world_quiet.specs.Fates.{courses_of}
use Rattle.st_world_quiet.proofs.Fates.{loses_then}
use Rattle.st_world_quiet.proofs.PlayedRuns.{err_after, met_on, ok_as}
use Rattle.st_world_quiet.proofs.following.lose_prepare.Goals as goal

pub returns-clause-met : goal.returns-clause-met
returns-clause-met g c =
    let p : ℕ → ℕ = puts_by (course_at (courses_of c.args.fates.now)) c.args.sends in
    let q : ℕ → ℕ = gives_by c.args.all (course_at (courses_of c.args.fates.now)) c.args.sends in
    ok_as c.take.result (Met c.lose.new.world (Fault 0 Client c.prepare-put.result c.args.now ∷ []) c.take.new.world) (Met c.args.world.now (following (worlds.PrepareLost c.args.at) p q c.args.all c.args.now) c.take.new.world)
    (loses_then p q c.args.all c.args.at c.prepare-put.result c.args.now c.args.world.now c.lose.new.world c.take.new.world c.prepare-put.ensures c.in_ok-lose.ensures.met) c.take.ensures.met

pub returns-clause-stops : goal.returns-clause-stops
returns-clause-stops g c =
    let p : ℕ → ℕ = puts_by (course_at (courses_of c.args.fates.now)) c.args.sends in
    err_after ⊥ ⊥ c.take.result c.args.world.now c.lose.new.world c.take.new.world (met_on (losing_by p 0 c.args.at c.args.all c.args.now) c.args.world.now c.lose.new.world c.in_ok-lose.ensures.met) c.take.ensures.stops
