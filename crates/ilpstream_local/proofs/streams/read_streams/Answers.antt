use Rattle.ilpstream_local.specs.Schedule.{BeginsToRead}
use Rattle.ilpstream_local.proofs.Plays.{continues_then}
use Rattle.ilpstream_local.proofs.Rounds.{reads_push}
use Rattle.ilpstream_local.proofs.Stops.{err_now}
use Rattle.ilpstream_local.proofs.streams.read_streams.Goals as goal

pub returns-in_err-read_stream-clause-begun : goal.returns-in_err-read_stream-clause-begun
returns-in_err-read_stream-clause-begun g c =
    err_now c.from_residual.result (BeginsToRead c.args.streams c.args.play.now c.read_stream.new.play)
    (c.loop-place.place, c.loop-place-test.true, (c.loop-place.play, c.loop-place.invariant.reads, c.in_err-read_stream.ensures.begun))

pub loop-place-preserved : goal.loop-place-preserved
loop-place-preserved g c = record {
  kept = continues_then c.args.play.now c.loop-place.play c.read_stream.new.play c.loop-place.invariant.kept c.read_stream.ensures.kept;
  reads = reads_push c.loop-place.place c.args.play.now c.loop-place.play c.read_stream.new.play c.loop-place.invariant.reads c.in_ok-read_stream.ensures.reads;
}
