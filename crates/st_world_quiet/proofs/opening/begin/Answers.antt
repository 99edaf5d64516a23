use Rattle.std.proofs.Common.{[], ◌∷◌}
use Rattle.st_world_parts.specs.Sides.{Client}
use Rattle.st_world_parts.specs.State.{log_at}
use Rattle.st_world_parts.specs.Events.{Offer}
use Rattle.st_world_quiet.specs.Worlds.{Met}
use Rattle.st_world_quiet.specs.HopRounds.{Begins, writes}
use Rattle.st_world_quiet.specs.Plays.{input_of, money_of}
use Rattle.st_world_quiet.specs.Playing.{OpensNone, Stops, bytes_of}
use Rattle.st_world_quiet.proofs.Parts.{begins_by, open_on}
use Rattle.st_world_quiet.proofs.PlayedRuns.{err_after, err_as, err_end, met_on, ok_as, stops_after, stops_as, then}
use Rattle.st_world_quiet.proofs.opening.begin.Goals as goal

pub returns-in_err-take-clause-stops : goal.returns-in_err-take-clause-stops
returns-in_err-take-clause-stops g c =
    let w = c.args.world.now in
    err_end (λ e. Stops (OpensNone w) ⊥ e w c.take.new.world) c.from_residual-in_err-take.result c.in_err-take.field-0.0 c.from_residual-in_err-take.ensures.1
    (stops_as ⊥ ⊥ (OpensNone w) ⊥ c.in_err-take.field-0.0 w c.take.new.world (λ no. absurd no) (λ no. absurd no)
    (stops_after ⊥ ⊥ c.in_err-take.field-0.0 w c.open.new.world c.take.new.world (open_on c.in_ok-stream.stream w c.open.new.world c.in_ok-stream.ensures.opened) c.in_err-take.ensures.stops))

pub returns-clause-begins : goal.returns-clause-begins
returns-clause-begins g c =
    let k = c.in_ok-stream.stream in
    let b = c.take.new.world in
    ok_as c.write_on.result (Met b (writes c.input_at.result.now k (log_at b Client k)) c.write_on.new.world) (Begins (input_of (bytes_of c.args.input.now)) (money_of c.args.money.now) c.args.world.now c.write_on.new.world)
    (begins_by (input_of (bytes_of c.args.input.now)) (money_of c.args.money.now) k c.money_at-amount.result c.input_at.result.now c.args.world.now c.open.new.world b c.write_on.new.world c.money_at-amount.ensures c.input_at.ensures
    c.in_ok-stream.ensures.opened c.in_ok-take.ensures.met) c.write_on.ensures.met

pub returns-clause-stops : goal.returns-clause-stops
returns-clause-stops g c =
    let w = c.args.world.now in
    let a = c.open.new.world in
    let b = c.take.new.world in
    err_as ⊥ ⊥ (OpensNone w) ⊥ c.write_on.result w c.write_on.new.world (λ no. absurd no) (λ no. absurd no)
    (err_after ⊥ ⊥ c.write_on.result w b c.write_on.new.world
    (then w a b (open_on c.in_ok-stream.stream w a c.in_ok-stream.ensures.opened) (met_on (Offer Client c.in_ok-stream.stream c.money_at-amount.result ∷ []) a b c.in_ok-take.ensures.met)) c.write_on.ensures.stops)
