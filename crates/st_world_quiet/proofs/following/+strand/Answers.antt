use Rattle.std.proofs.Common.{◌≡◌, ℕ, [], ◌∷◌, ◌+◌, ◌-◌}
use Rattle.st_world_parts.specs.Sides.{Client}
use Rattle.st_world_parts.specs.Events.{Arrive, Fault}
use Rattle.st_world_quiet.specs.Worlds.{Met}
use Rattle.st_world_quiet.specs.LostWorlds.{course_at, gives_by, going_by, puts_by, stranding_by}
use Rattle.st_world_quiet.specs.Playing.{Stops}
use Rattle.st_world_quiet.specs.Fates.{courses_of}
use Rattle.st_world_quiet.proofs.Fates.{stranding_last, stranding_more, stranding_none}
use Rattle.st_world_quiet.proofs.PlayedRuns.{err_after, err_end, met_on, ok_as, stops_after, then}
use Rattle.st_world_quiet.proofs.following.+strand.Goals as goal

pub returns-then-past-eq0-clause-met : goal.returns-then-past-eq0-clause-met
returns-then-past-eq0-clause-met g t c =
    let p : ℕ → ℕ = puts_by (course_at (courses_of c.args.fates.now)) c.args.sends in
    let q : ℕ → ℕ = gives_by c.args.all (course_at (courses_of c.args.fates.now)) c.args.sends in
    ok_as c.go.result (Met c.args.world.now (going_by p q c.args.link c.args.hops c.args.now) c.go.new.world) (Met c.args.world.now (stranding_by p q c.args.link c.args.past c.args.hops c.args.now) c.go.new.world)
    (λ run. stranding_none p q c.args.link c.args.past c.args.hops c.args.now c.args.world.now c.go.new.world c.if-past-eq0.true run) c.go.ensures.met

pub returns-then-hops-eq0-clause-met : goal.returns-then-hops-eq0-clause-met
returns-then-hops-eq0-clause-met g t c =
    let p : ℕ → ℕ = puts_by (course_at (courses_of c.args.fates.now)) c.args.sends in
    let q : ℕ → ℕ = gives_by c.args.all (course_at (courses_of c.args.fates.now)) c.args.sends in
    stranding_last p q c.args.link c.args.past c.args.hops c.prepare-put.result c.args.now c.args.world.now c.take.new.world c.if-past-eq0.false c.if-hops-eq0.true c.prepare-put.ensures c.in_ok-take.ensures.met

pub returns-in_err-strand-clause-stops : goal.returns-in_err-strand-clause-stops
returns-in_err-strand-clause-stops g t c =
    err_end (λ e. Stops ⊥ ⊥ e c.args.world.now c.strand.new.world) c.from_residual-in_err-strand.result c.in_err-strand.field-0.0 c.from_residual-in_err-strand.ensures.1
    (stops_after ⊥ ⊥ c.in_err-strand.field-0.0 c.args.world.now c.take.new.world c.strand.new.world (met_on (Arrive c.args.link Client c.prepare-put.result c.args.now ∷ []) c.args.world.now c.take.new.world c.in_ok-take.ensures.met) c.in_err-strand.ensures.stops)

pub returns-clause-met : goal.returns-clause-met
returns-clause-met g t c =
    let p : ℕ → ℕ = puts_by (course_at (courses_of c.args.fates.now)) c.args.sends in
    let q : ℕ → ℕ = gives_by c.args.all (course_at (courses_of c.args.fates.now)) c.args.sends in
    ok_as c.take-2.result (Met c.strand.new.world (Fault (c.args.link + 1) Client c.prepare-next.result c.args.now ∷ []) c.take-2.new.world) (Met c.args.world.now (stranding_by p q c.args.link c.args.past c.args.hops c.args.now) c.take-2.new.world)
    (stranding_more p q c.args.link c.args.past c.args.hops c.prepare-put.result c.prepare-next.result c.args.now c.args.world.now c.take.new.world c.strand.new.world c.take-2.new.world c.if-past-eq0.false c.if-hops-eq0.false c.prepare-put.ensures c.prepare-next.ensures c.in_ok-take.ensures.met c.in_ok-strand.ensures.met) c.take-2.ensures.met

pub returns-clause-stops : goal.returns-clause-stops
returns-clause-stops g t c =
    let p : ℕ → ℕ = puts_by (course_at (courses_of c.args.fates.now)) c.args.sends in
    let q : ℕ → ℕ = gives_by c.args.all (course_at (courses_of c.args.fates.now)) c.args.sends in
    err_after ⊥ ⊥ c.take-2.result c.args.world.now c.strand.new.world c.take-2.new.world
    (then c.args.world.now c.take.new.world c.strand.new.world (met_on (Arrive c.args.link Client c.prepare-put.result c.args.now ∷ []) c.args.world.now c.take.new.world c.in_ok-take.ensures.met)
    (met_on (stranding_by p q (c.args.link + 1) (c.args.past - 1) (c.args.hops - 1) c.args.now) c.take.new.world c.strand.new.world c.in_ok-strand.ensures.met)) c.take-2.ensures.stops
