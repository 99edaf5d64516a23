use Rattle.std.proofs.Common.{◌≡◌, ◌∙◌, [], ◌∷◌, false, sym, arith, rules}
use Rattle.std.proofs.lemmas.Grind.{common_steps}
use Rattle.st_world_parts.specs.Sides.{Client}
use Rattle.st_world_parts.specs.State.{log_at}
use Rattle.st_world_parts.specs.Events.{Close, Write}
use Rattle.st_world_quiet.specs.Worlds.{Met}
use Rattle.st_world_quiet.specs.HopRounds.{writes}
use Rattle.st_world_quiet.proofs.Parts.{wrote_all, wrote_part}
use Rattle.st_world_quiet.proofs.PlayedRuns.{err_after, met_on, ok_as}
use Rattle.st_world_quiet.proofs.Unopened.{unwritten}
use Rattle.st_world_quiet.proofs.writes.write_on.Goals as goal

pub returns-then-not-has_stream-clause-met : goal.returns-then-not-has_stream-clause-met
returns-then-not-has_stream-clause-met g c =
    let shut : c.has_stream.result ≡ false = first_of (search rules, grind (arith, common_steps)) in
    unwritten c.args.input.now c.args.world.now c.args.stream (sym c.has_stream.ensures.has ∙ shut)

pub returns-then-written-piece-clause-met : goal.returns-then-written-piece-clause-met
returns-then-written-piece-clause-met g c =
    wrote_part c.args.input.now c.args.stream c.args.world.now c.take.new.world c.progress-written.result.0 c.progress-written.result.1 c.fitting-piece.result.now c.progress-written.ensures.written c.progress-written.ensures.read
    c.fitting-piece.ensures c.if-written-piece.true c.in_ok-take.ensures.met

pub returns-clause-met : goal.returns-clause-met
returns-clause-met g c =
    ok_as c.take-2.result (Met c.take.new.world (Close Client c.args.stream ∷ []) c.take-2.new.world) (Met c.args.world.now (writes c.args.input.now c.args.stream (log_at c.args.world.now Client c.args.stream)) c.take-2.new.world)
    (wrote_all c.args.input.now c.args.stream c.args.world.now c.take.new.world c.take-2.new.world c.progress-written.result.0 c.progress-written.result.1 c.fitting-piece.result.now c.progress-written.ensures.written
    c.progress-written.ensures.read c.fitting-piece.ensures c.if-written-piece.false c.in_ok-take.ensures.met) c.take-2.ensures.met

pub returns-clause-stops : goal.returns-clause-stops
returns-clause-stops g c =
    err_after ⊥ ⊥ c.take-2.result c.args.world.now c.take.new.world c.take-2.new.world
    (met_on (Write Client c.args.stream c.fitting-piece.result.now ∷ []) c.args.world.now c.take.new.world c.in_ok-take.ensures.met) c.take-2.ensures.stops
