use Rattle.st_world_quiet.specs.HopRounds.{reads}
use Rattle.st_world_quiet.specs.Playing.{Stops, read_limit}
use Rattle.st_world_quiet.proofs.Joins.{reads_more, reads_none}
use Rattle.st_world_quiet.proofs.PlayedRuns.{err_end, met_on, stops_after}
use Rattle.st_world_quiet.proofs.rounds.read_each.Goals as goal

pub loop-stream-init : goal.loop-stream-init
loop-stream-init g c = reads_none read_limit c.args.world.now

pub returns-in_err-read_on-clause-stops : goal.returns-in_err-read_on-clause-stops
returns-in_err-read_on-clause-stops g c =
    err_end (λ e. Stops ⊥ ⊥ e c.args.world.now c.read_on.new.world) c.from_residual.result c.in_err-read_on.field-0.0 c.from_residual.ensures.1
    (stops_after ⊥ ⊥ c.in_err-read_on.field-0.0 c.args.world.now c.loop-stream.world c.read_on.new.world (met_on (reads read_limit 0 c.loop-stream.stream) c.args.world.now c.loop-stream.world c.loop-stream.invariant) c.in_err-read_on.ensures.stops)

pub loop-stream-preserved : goal.loop-stream-preserved
loop-stream-preserved g c = reads_more read_limit c.loop-stream.stream c.args.world.now c.loop-stream.world c.read_on.new.world c.loop-stream.invariant c.in_ok-read_on.ensures.met
