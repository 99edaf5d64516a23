use Rattle.std.proofs.Common.{◌≡◌, ◌∙◌, length, ap}
use Rattle.st_world.specs.Left.{Left}
use Rattle.st_world_quiet.specs.Worlds.{Met}
use Rattle.st_world_quiet.specs.HopRounds.{allows, reads}
use Rattle.st_world_quiet.specs.Plays.{input_of, money_of}
use Rattle.st_world_quiet.specs.Playing.{IsEndless, IsEndlessAfter, IsPlayed, IsStuck, IsStuckAfter, Stops, bytes_of, read_limit}
use Rattle.st_world_quiet.proofs.PlayedRuns.{begins_on, err_after, err_as, err_end, met_on, ok_as, rounds_on, stops_after, stops_as, then}
use Rattle.st_world_quiet.proofs.Wholes.{endless_after, played_by, stuck_after}
use Rattle.st_world_quiet.proofs.run.play.Goals as goal

pub returns-in_err-allow_each-clause-stops : goal.returns-in_err-allow_each-clause-stops
returns-in_err-allow_each-clause-stops g c =
    let input = input_of (bytes_of c.args.input.now) in
    let money = money_of c.args.money.now in
    let w = c.args.world.now in
    let S = IsStuckAfter input money (length c.args.input.now) w in
    let E = IsEndlessAfter input money (length c.args.input.now) (length w.nodes) c.args.most w in
    let e = c.in_err-allow_each.field-0.0 in
    err_end (λ d. Stops S E d w c.allow_each.new.world) c.from_residual.result e c.from_residual.ensures.1 (stops_as ⊥ ⊥ S E e w c.allow_each.new.world (λ no. absurd no) (λ no. absurd no) c.in_err-allow_each.ensures.stops)

pub returns-in_err-begin_each-clause-stops : goal.returns-in_err-begin_each-clause-stops
returns-in_err-begin_each-clause-stops g c =
    let input = input_of (bytes_of c.args.input.now) in
    let money = money_of c.args.money.now in
    let count = length c.args.input.now in
    let w = c.args.world.now in
    let a = c.allow_each.new.world in
    let b = c.begin_each.new.world in
    let S = IsStuckAfter input money count w in
    let E = IsEndlessAfter input money count (length w.nodes) c.args.most w in
    let e = c.in_err-begin_each.field-0.0 in
    err_end (λ d. Stops S E d w b) c.from_residual-in_err-begin_each.result e c.from_residual-in_err-begin_each.ensures.1
    (stops_as (IsStuck input money count a) ⊥ S E e w b (λ stuck. stuck_after input money count w a c.in_ok-allow_each.ensures.met stuck) (λ no. absurd no)
    (stops_after (IsStuck input money count a) ⊥ e w a b (met_on (allows money 0 65) w a c.in_ok-allow_each.ensures.met) c.in_err-begin_each.ensures.stops))

pub returns-in_err-go_rounds-clause-stops : goal.returns-in_err-go_rounds-clause-stops
returns-in_err-go_rounds-clause-stops g c =
    let input = input_of (bytes_of c.args.input.now) in
    let money = money_of c.args.money.now in
    let count = length c.args.input.now in
    let w = c.args.world.now in
    let a = c.allow_each.new.world in
    let b = c.begin_each.new.world in
    let v = c.go_rounds.new.world in
    let hops : c.hops-hops.result ≡ length w.nodes = c.hops-hops.ensures ∙ ap (λ (t : Left). length t.nodes) c.trace.ensures.trace in
    let S = IsStuckAfter input money count w in
    let E = IsEndlessAfter input money count (length w.nodes) c.args.most w in
    let e = c.in_err-go_rounds.field-0.0 in
    err_end (λ d. Stops S E d w v) c.from_residual-in_err-go_rounds.result e c.from_residual-in_err-go_rounds.ensures.1
    (stops_as ⊥ (IsEndless input c.hops-hops.result c.args.most b) S E e w v (λ no. absurd no)
    (λ endless. endless_after input money count c.hops-hops.result (length w.nodes) c.args.most w a b hops c.in_ok-allow_each.ensures.met c.in_ok-begin_each.ensures.begins endless)
    (stops_after ⊥ (IsEndless input c.hops-hops.result c.args.most b) e w b v
    (then w a b (met_on (allows money 0 65) w a c.in_ok-allow_each.ensures.met) (begins_on input money count a b c.in_ok-begin_each.ensures.begins)) c.in_err-go_rounds.ensures.stops))

pub returns-clause-played : goal.returns-clause-played
returns-clause-played g c =
    let input = input_of (bytes_of c.args.input.now) in
    let money = money_of c.args.money.now in
    let count = length c.args.input.now in
    let w = c.args.world.now in
    let a = c.allow_each.new.world in
    let b = c.begin_each.new.world in
    let e = c.go_rounds.new.world in
    let v = c.read_each.new.world in
    let hops : c.hops-hops.result ≡ length w.nodes = c.hops-hops.ensures ∙ ap (λ (t : Left). length t.nodes) c.trace.ensures.trace in
    ok_as c.read_each.result (Met e (reads read_limit 0 65) v) (IsPlayed input money count (length w.nodes) c.go_rounds.new.sends w v)
    (λ run. played_by input money count c.hops-hops.result (length w.nodes) c.go_rounds.new.sends w a b e v hops c.in_ok-allow_each.ensures.met c.in_ok-begin_each.ensures.begins c.in_ok-go_rounds.ensures.rounds c.in_ok-go_rounds.ensures.none run)
    c.read_each.ensures.met

pub returns-clause-stops : goal.returns-clause-stops
returns-clause-stops g c =
    let input = input_of (bytes_of c.args.input.now) in
    let money = money_of c.args.money.now in
    let count = length c.args.input.now in
    let w = c.args.world.now in
    let a = c.allow_each.new.world in
    let b = c.begin_each.new.world in
    let e = c.go_rounds.new.world in
    let v = c.read_each.new.world in
    let S = IsStuckAfter input money count w in
    let E = IsEndlessAfter input money count (length w.nodes) c.args.most w in
    err_as ⊥ ⊥ S E c.read_each.result w v (λ no. absurd no) (λ no. absurd no)
    (err_after ⊥ ⊥ c.read_each.result w e v
    (then w a e (met_on (allows money 0 65) w a c.in_ok-allow_each.ensures.met)
    (then a b e (begins_on input money count a b c.in_ok-begin_each.ensures.begins) (rounds_on input c.hops-hops.result 0 c.go_rounds.new.sends b e c.in_ok-go_rounds.ensures.rounds))) c.read_each.ensures.stops)
