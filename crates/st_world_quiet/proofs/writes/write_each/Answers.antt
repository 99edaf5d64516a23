use Rattle.std.proofs.Common.{List, ℕ, arith, subst}
use Rattle.st_world_parts.specs.Sides.{Client}
use Rattle.st_world_parts.specs.State.{log_at}
use Rattle.st_world_quiet.specs.Worlds.{Met}
use Rattle.st_world_quiet.specs.HopRounds.{writes}
use Rattle.st_world_quiet.specs.Plays.{input_of}
use Rattle.st_world_quiet.specs.Playing.{Stops, bytes_of}
use Rattle.st_world_quiet.proofs.Joins.{writes_more}
use Rattle.st_world_quiet.proofs.Parts.{writes_all}
use Rattle.st_world_quiet.proofs.PlayedRuns.{err_end, stops_after, writes_on}
use Rattle.st_world_quiet.proofs.writes.write_each.Goals as goal

pub returns-in_err-write_on-clause-stops : goal.returns-in_err-write_on-clause-stops
returns-in_err-write_on-clause-stops g c =
    err_end (λ e. Stops ⊥ ⊥ e c.args.world.now c.write_on.new.world) c.from_residual.result c.in_err-write_on.field-0.0 c.from_residual.ensures.1
    (stops_after ⊥ ⊥ c.in_err-write_on.field-0.0 c.args.world.now c.loop-stream.world c.write_on.new.world (writes_on (input_of (bytes_of c.args.input.now)) 0 c.loop-stream.stream c.args.world.now c.loop-stream.world c.loop-stream.invariant) c.in_err-write_on.ensures.stops)

pub loop-stream-preserved : goal.loop-stream-preserved
loop-stream-preserved g c =
    let k = c.loop-stream.stream in
    let w = c.loop-stream.world in
    writes_more (input_of (bytes_of c.args.input.now)) k c.args.world.now w c.write_on.new.world c.loop-stream.invariant
    (subst (λ (ys : List ℕ). Met w (writes ys k (log_at w Client k)) c.write_on.new.world) c.input_at.ensures c.in_ok-write_on.ensures.met)

pub returns-clause-writes : goal.returns-clause-writes
returns-clause-writes g c =
    writes_all (input_of (bytes_of c.args.input.now)) c.loop-stream.stream c.args.world.now c.loop-stream.world (omega (arith, c.loop-stream-test.false, c.loop-stream.auto.stream-end)) c.loop-stream.invariant
