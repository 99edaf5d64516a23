use Rattle.ilpstream_local.specs.Schedule.{BeginsEach, opens}
use Rattle.ilpstream_local.proofs.Plays.{continues_then}
use Rattle.ilpstream_local.proofs.Rounds.{begins_push, each_push}
use Rattle.ilpstream_local.proofs.Stops.{err_now}
use Rattle.ilpstream_local.proofs.streams.open_streams.Goals as goal

pub returns-in_err-_told-clause-begun : goal.returns-in_err-_told-clause-begun
returns-in_err-_told-clause-begun g c =
    err_now c.from_residual.result (BeginsEach opens c.args.streams c.args.play.now c.pass.new.self)
    (begins_push opens c.loop-place.place c.args.streams c.args.play.now c.loop-place.play c.pass.new.self c.loop-place-test.true c.loop-place.invariant.taken c.in_err-_told.ensures.begun)

pub loop-place-preserved : goal.loop-place-preserved
loop-place-preserved g c = record {
  kept = continues_then c.args.play.now c.loop-place.play c.pass.new.self c.loop-place.invariant.kept c.pass.ensures.kept;
  taken = each_push opens c.loop-place.place c.args.play.now c.loop-place.play c.pass.new.self c.loop-place.invariant.taken c.in_ok-_told.ensures.taken;
}
