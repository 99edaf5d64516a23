use Rattle.std.proofs.Common.{◌≡◌, ◌+◌, pos, true, refl, arith, rules}
use Rattle.std.proofs.lemmas.Grind.{common_steps}
use Rattle.st_world_quiet.specs.Worlds.{passing}
use Rattle.st_world_quiet.specs.HopRounds.{reads}
use Rattle.st_world_quiet.specs.Plays.{input_of}
use Rattle.st_world_quiet.specs.Playing.{Sends, Stops, bytes_of, read_limit}
use Rattle.st_world_quiet.proofs.Parts.{goes_on, sends_on}
use Rattle.st_world_quiet.proofs.PlayedRuns.{err_end, met_on, stops_after, then}
use Rattle.st_world_quiet.proofs.rounds.go_round.Goals as goal

pub returns-in_err-pass-clause-stops : goal.returns-in_err-pass-clause-stops
returns-in_err-pass-clause-stops g c =
    let w = c.args.world.now in
    let a = c.send.new.world in
    let now = c.unwrap-now.result in
    let yes : c.in_ok-send.field-0 ≡ true = first_of (search rules, grind (arith, common_steps)) in
    let sent : Sends (c.args.sends.now + 1) now w a = rw yes at c.in_ok-send.ensures.sent in
    err_end (λ e. Stops ⊥ ⊥ e w c.pass.new.world) c.from_residual-in_err-pass.result c.in_err-pass.field-0.0 c.from_residual-in_err-pass.ensures.1
    (stops_after ⊥ ⊥ c.in_err-pass.field-0.0 w a c.pass.new.world (sends_on (c.args.sends.now + 1) now w a sent) c.in_err-pass.ensures.stops)

pub returns-in_err-read_each-clause-stops : goal.returns-in_err-read_each-clause-stops
returns-in_err-read_each-clause-stops g c =
    let w = c.args.world.now in
    let a = c.send.new.world in
    let b = c.pass.new.world in
    let now = c.unwrap-now.result in
    let yes : c.in_ok-send.field-0 ≡ true = first_of (search rules, grind (arith, common_steps)) in
    let sent : Sends (c.args.sends.now + 1) now w a = rw yes at c.in_ok-send.ensures.sent in
    err_end (λ e. Stops ⊥ ⊥ e w c.read_each.new.world) c.from_residual-in_err-read_each.result c.in_err-read_each.field-0.0 c.from_residual-in_err-read_each.ensures.1
    (stops_after ⊥ ⊥ c.in_err-read_each.field-0.0 w b c.read_each.new.world
    (then w a b (sends_on (c.args.sends.now + 1) now w a sent) (met_on (passing c.args.hops (c.args.sends.now + 1) now) a b c.in_ok-pass.ensures.met)) c.in_err-read_each.ensures.stops)

pub returns-in_err-write_each-clause-stops : goal.returns-in_err-write_each-clause-stops
returns-in_err-write_each-clause-stops g c =
    let w = c.args.world.now in
    let a = c.send.new.world in
    let b = c.pass.new.world in
    let r = c.read_each.new.world in
    let now = c.unwrap-now.result in
    let yes : c.in_ok-send.field-0 ≡ true = first_of (search rules, grind (arith, common_steps)) in
    let sent : Sends (c.args.sends.now + 1) now w a = rw yes at c.in_ok-send.ensures.sent in
    err_end (λ e. Stops ⊥ ⊥ e w c.write_each.new.world) c.from_residual-in_err-write_each.result c.in_err-write_each.field-0.0 c.from_residual-in_err-write_each.ensures.1
    (stops_after ⊥ ⊥ c.in_err-write_each.field-0.0 w r c.write_each.new.world
    (then w a r (sends_on (c.args.sends.now + 1) now w a sent)
    (then a b r (met_on (passing c.args.hops (c.args.sends.now + 1) now) a b c.in_ok-pass.ensures.met) (met_on (reads read_limit 0 65) b r c.in_ok-read_each.ensures.met))) c.in_err-write_each.ensures.stops)

pub returns-clause-round : goal.returns-clause-round
returns-clause-round g c =
    let w = c.args.world.now in
    let a = c.send.new.world in
    let now = c.unwrap-now.result in
    let yes : c.in_ok-send.field-0 ≡ true = first_of (search rules, grind (arith, common_steps)) in
    let start : now ≡ pos 0 = first_of (search rules, grind (arith, common_steps)) in
    let sent : Sends (c.args.sends.now + 1) now w a = rw yes at c.in_ok-send.ensures.sent in
    goes_on (input_of (bytes_of c.args.input.now)) c.args.hops c.args.sends.now (c.args.sends.now + 1) (c.args.sends.now + 1) now w a c.pass.new.world c.read_each.new.world c.write_each.new.world refl refl start sent c.in_ok-pass.ensures.met
    c.in_ok-read_each.ensures.met c.in_ok-write_each.ensures.writes
