use Rattle.std.proofs.Common.{◌≡◌, ℕ, ◌+◌, pos, true, refl, arith, rules}
use Rattle.std.proofs.lemmas.Grind.{common_steps}
use Rattle.st_world_quiet.specs.LostWorlds.{course_at, following, gives_by, puts_by}
use Rattle.st_world_quiet.specs.HopRounds.{reads}
use Rattle.st_world_quiet.specs.Playing.{Sends, Stops, read_limit}
use Rattle.st_world_quiet.specs.Fates.{courses_of}
use Rattle.st_world_quiet.proofs.Fates.{carried_is, fated_on}
use Rattle.st_world_quiet.proofs.Parts.{sends_on}
use Rattle.st_world_quiet.proofs.PlayedRuns.{err_end, met_on, stops_after, then}
use Rattle.st_world_quiet.proofs.fated.go_fated.Goals as goal

pub returns-in_err-follow-clause-stops : goal.returns-in_err-follow-clause-stops
returns-in_err-follow-clause-stops g c =
    let w = c.args.world.now in
    let a = c.send.new.world in
    let now = c.unwrap-now.result in
    let yes : c.in_ok-send.field-0 ≡ true = first_of (search rules, grind (arith, common_steps)) in
    let sent : Sends (c.args.sends.now + 1) now w a = rw yes at c.in_ok-send.ensures.sent in
    err_end (λ e. Stops ⊥ ⊥ e w c.follow.new.world) c.from_residual-in_err-follow.result c.in_err-follow.field-0.0 c.from_residual-in_err-follow.ensures.1
    (stops_after ⊥ ⊥ c.in_err-follow.field-0.0 w a c.follow.new.world (sends_on (c.args.sends.now + 1) now w a sent) c.in_err-follow.ensures.stops)

pub returns-in_err-read_each-clause-stops : goal.returns-in_err-read_each-clause-stops
returns-in_err-read_each-clause-stops g c =
    let w = c.args.world.now in
    let a = c.send.new.world in
    let b = c.follow.new.world in
    let now = c.unwrap-now.result in
    let course = course_at (courses_of c.args.fates.now) in
    let yes : c.in_ok-send.field-0 ≡ true = first_of (search rules, grind (arith, common_steps)) in
    let sent : Sends (c.args.sends.now + 1) now w a = rw yes at c.in_ok-send.ensures.sent in
    err_end (λ e. Stops ⊥ ⊥ e w c.read_each.new.world) c.from_residual-in_err-read_each.result c.in_err-read_each.field-0.0 c.from_residual-in_err-read_each.ensures.1
    (stops_after ⊥ ⊥ c.in_err-read_each.field-0.0 w b c.read_each.new.world
    (then w a b (sends_on (c.args.sends.now + 1) now w a sent) (met_on (following (course c.args.sends.now) (puts_by course c.args.sends.now) (gives_by c.args.hops course c.args.sends.now) c.args.hops now) a b c.in_ok-follow.ensures.met)) c.in_err-read_each.ensures.stops)

pub returns-clause-round : goal.returns-clause-round
returns-clause-round g c =
    let w = c.args.world.now in
    let a = c.send.new.world in
    let now = c.unwrap-now.result in
    let course = course_at (courses_of c.args.fates.now) in
    let yes : c.in_ok-send.field-0 ≡ true = first_of (search rules, grind (arith, common_steps)) in
    let start : now ≡ pos 0 = first_of (search rules, grind (arith, common_steps)) in
    let sent : Sends (c.args.sends.now + 1) now w a = rw yes at c.in_ok-send.ensures.sent in
    fated_on course c.args.hops c.args.sends.now (c.args.sends.now + 1) c.args.sends.now c.carried.result now w a c.follow.new.world c.read_each.new.world refl refl start
    (carried_is c.fate_at-fate.result (course c.args.sends.now) w c.read_each.new.world c.carried.result c.credit-before.result c.credit-after.result c.fate_at-fate.ensures c.carried.ensures c.credit-before.ensures c.credit-after.ensures)
    sent c.in_ok-follow.ensures.met c.in_ok-read_each.ensures.met
