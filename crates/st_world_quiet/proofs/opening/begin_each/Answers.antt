use Rattle.std.proofs.Common.{length}
use Rattle.st_world_quiet.specs.Plays.{input_of, money_of}
use Rattle.st_world_quiet.specs.Playing.{IsStuck, OpensNone, Stops, bytes_of}
use Rattle.st_world_quiet.proofs.Joins.{begins_more}
use Rattle.st_world_quiet.proofs.PlayedRuns.{begins_on, err_end, stops_after, stops_as}
use Rattle.st_world_quiet.proofs.opening.begin_each.Goals as goal

pub returns-in_err-begin-clause-stops : goal.returns-in_err-begin-clause-stops
returns-in_err-begin-clause-stops g c =
    let input = input_of (bytes_of c.args.input.now) in
    let money = money_of c.args.money.now in
    let w = c.args.world.now in
    let a = c.loop-place.world in
    err_end (λ e. Stops (IsStuck input money (length c.args.input.now) w) ⊥ e w c.begin.new.world) c.from_residual.result c.in_err-begin.field-0.0 c.from_residual.ensures.1
    (stops_as (OpensNone a) ⊥ (IsStuck input money (length c.args.input.now) w) ⊥ c.in_err-begin.field-0.0 w c.begin.new.world
    (λ none. record { opened = c.loop-place.place; fewer = c.loop-place-test.true; begun = a; begins_each = c.loop-place.invariant; none = none }) (λ no. no)
    (stops_after (OpensNone a) ⊥ c.in_err-begin.field-0.0 w a c.begin.new.world (begins_on input money c.loop-place.place w a c.loop-place.invariant) c.in_err-begin.ensures.stops))

pub loop-place-preserved : goal.loop-place-preserved
loop-place-preserved g c = begins_more (input_of (bytes_of c.args.input.now)) (money_of c.args.money.now) c.loop-place.place c.args.world.now c.loop-place.world c.begin.new.world c.loop-place.invariant c.in_ok-begin.ensures.begins
