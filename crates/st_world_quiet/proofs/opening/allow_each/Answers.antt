use Rattle.std.proofs.Common.{ℕ, [], ◌∷◌, subst}
use Rattle.st_world_parts.specs.Sides.{Server}
use Rattle.st_world_parts.specs.Events.{ReceiveMax}
use Rattle.st_world_quiet.specs.Worlds.{Met}
use Rattle.st_world_quiet.specs.HopRounds.{allows}
use Rattle.st_world_quiet.specs.Plays.{money_of}
use Rattle.st_world_quiet.specs.Playing.{Stops}
use Rattle.st_world_quiet.proofs.Joins.{allows_more, allows_none}
use Rattle.st_world_quiet.proofs.PlayedRuns.{err_end, met_on, stops_after}
use Rattle.st_world_quiet.proofs.opening.allow_each.Goals as goal

pub loop-stream-init : goal.loop-stream-init
loop-stream-init g c = allows_none (money_of c.args.money.now) c.args.world.now

pub returns-in_err-take-clause-stops : goal.returns-in_err-take-clause-stops
returns-in_err-take-clause-stops g c =
    err_end (λ e. Stops ⊥ ⊥ e c.args.world.now c.take.new.world) c.from_residual.result c.in_err-take.field-0.0 c.from_residual.ensures.1
    (stops_after ⊥ ⊥ c.in_err-take.field-0.0 c.args.world.now c.loop-stream.world c.take.new.world (met_on (allows (money_of c.args.money.now) 0 c.loop-stream.stream) c.args.world.now c.loop-stream.world c.loop-stream.invariant) c.in_err-take.ensures.stops)

pub loop-stream-preserved : goal.loop-stream-preserved
loop-stream-preserved g c =
    allows_more (money_of c.args.money.now) c.loop-stream.stream c.args.world.now c.loop-stream.world c.take.new.world c.loop-stream.invariant
    (subst (λ (n : ℕ). Met c.loop-stream.world (ReceiveMax Server c.loop-stream.stream n ∷ []) c.take.new.world) c.money_at-amount.ensures c.in_ok-take.ensures.met)
