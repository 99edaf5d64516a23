use Rattle.std.proofs.Common.{◌≡◌, true, arith, rules}
use Rattle.std.proofs.lemmas.Grind.{common_steps}
use Rattle.st_world_quiet.specs.Plays.{input_of}
use Rattle.st_world_quiet.specs.Playing.{GoesOn, IsEndless, Stops, bytes_of}
use Rattle.st_world_quiet.proofs.Joins.{rounds_front, rounds_more}
use Rattle.st_world_quiet.proofs.PlayedRuns.{err_end, rounds_on, stops_after, stops_as}
use Rattle.st_world_quiet.proofs.rounds.go_rounds.Goals as goal

pub returns-in_err-go_round-clause-stops : goal.returns-in_err-go_round-clause-stops
returns-in_err-go_round-clause-stops g c =
    let input = input_of (bytes_of c.args.input.now) in
    let w = c.args.world.now in
    let a = c.loop-sends.world in
    let v = c.go_round.new.world in
    let e = c.in_err-go_round.field-0.0 in
    err_end (λ d. Stops ⊥ (IsEndless input c.args.hops c.args.most w) d w v) c.from_residual.result e c.from_residual.ensures.1
    (stops_as ⊥ ⊥ ⊥ (IsEndless input c.args.hops c.args.most w) e w v (λ no. no) (λ no. absurd no)
    (stops_after ⊥ ⊥ e w a v (rounds_on input c.args.hops 0 c.loop-sends.sends w a c.loop-sends.invariant) c.in_err-go_round.ensures.stops))

pub loop-sends-preserved : goal.loop-sends-preserved
loop-sends-preserved g c =
    let input = input_of (bytes_of c.args.input.now) in
    let w = c.args.world.now in
    let a = c.loop-sends.world in
    let v = c.go_round.new.world in
    let yes : c.in_ok-go_round.field-0 ≡ true = first_of (search rules, grind (arith, common_steps)) in
    let one : GoesOn input c.args.hops c.loop-sends.sends c.go_round.new.sends a v = rw yes at c.in_ok-go_round.ensures.round in
    rounds_more input c.args.hops c.loop-sends.sends c.go_round.new.sends w a v one.counted c.loop-sends.invariant one.round

pub returns-clause-stops : goal.returns-clause-stops
returns-clause-stops g c =
    let input = input_of (bytes_of c.args.input.now) in
    let w = c.args.world.now in
    let v = c.loop-sends.world in
    let front = rounds_front input c.args.hops 0 c.args.most c.loop-sends.sends w v c.loop-sends-test.false c.loop-sends.invariant in
    record { goes_on = rounds_on input c.args.hops 0 c.loop-sends.sends w v c.loop-sends.invariant; why = record { ended = front.0; rounds = front.1 } }
