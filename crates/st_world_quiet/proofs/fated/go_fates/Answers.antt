use Rattle.std.proofs.Common.{◌≡◌, ◌+◌, ◌<◌, true, arith, rules}
use Rattle.std.proofs.lemmas.Grind.{common_steps}
use Rattle.st_world_quiet.specs.LostWorlds.{course_at}
use Rattle.st_world_quiet.specs.Playing.{Stops}
use Rattle.st_world_quiet.specs.Fates.{GoesOnFated, IsEndlessFated, courses_of}
use Rattle.st_world_quiet.proofs.Fates.{fates_front, fates_more, fates_none, fates_on}
use Rattle.st_world_quiet.proofs.PlayedRuns.{err_end, stops_after, stops_as}
use Rattle.st_world_quiet.proofs.fated.go_fates.Goals as goal

pub loop-sends-init : goal.loop-sends-init
loop-sends-init g c = fates_none (course_at (courses_of c.args.fates.now)) c.args.hops c.args.sends.now c.args.told.now c.args.world.now c.requires.none c.requires.nothing

pub returns-in_err-go_fated-clause-stops : goal.returns-in_err-go_fated-clause-stops
returns-in_err-go_fated-clause-stops g c =
    let course = course_at (courses_of c.args.fates.now) in
    let w = c.args.world.now in
    let a = c.loop-sends.world in
    let v = c.go_fated.new.world in
    let e = c.in_err-go_fated.field-0.0 in
    let old = c.loop-sends.invariant in
    err_end (λ d. Stops ⊥ (IsEndlessFated course c.args.hops c.args.most w) d w v) c.from_residual.result e c.from_residual.ensures.1
    (stops_as ⊥ ⊥ ⊥ (IsEndlessFated course c.args.hops c.args.most w) e w v (λ no. no) (λ no. absurd no)
    (stops_after ⊥ ⊥ e w a v (fates_on course c.args.hops 0 c.loop-sends.sends old.carried w a old.rounds) c.in_err-go_fated.ensures.stops))

pub loop-sends-preserved : goal.loop-sends-preserved
loop-sends-preserved g c =
    let course = course_at (courses_of c.args.fates.now) in
    let w = c.args.world.now in
    let a = c.loop-sends.world in
    let v = c.go_fated.new.world in
    let yes : c.in_ok-go_fated.field-0 ≡ true = first_of (search rules, grind (arith, common_steps)) in
    let one : GoesOnFated course c.args.hops c.loop-sends.sends c.go_fated.new.sends c.go_fated.new.one a v = rw yes at c.in_ok-go_fated.ensures.round in
    fates_more course c.args.hops c.loop-sends.sends c.go_fated.new.sends c.loop-sends.told c.go_fated.new.one c.saturating_add.result w a v one.counted (λ few. omega (arith, few, c.saturating_add.ensures)) c.loop-sends.invariant one

pub returns-clause-stops : goal.returns-clause-stops
returns-clause-stops g c =
    let course = course_at (courses_of c.args.fates.now) in
    let w = c.args.world.now in
    let v = c.loop-sends.world in
    let old = c.loop-sends.invariant in
    let front = fates_front course c.args.hops 0 c.args.most c.loop-sends.sends old.carried w v c.loop-sends-test.false old.rounds in
    record { goes_on = fates_on course c.args.hops 0 c.loop-sends.sends old.carried w v old.rounds; why = record { ended = front.0; carried = front.1.0; rounds = front.1.1 } }
