use Rattle.std.proofs.Common.{subst}
use Rattle.st_devices.specs.Tallies.{device_of}
use Rattle.st_end.specs.Calls as calls
use Rattle.ilpstream_ends.specs.Keeping.{ReceivesFrom, file_stream}
use Rattle.ilpstream_ends.proofs.receive.receive_on.Goals as goal

pub returns-clause-told : goal.returns-clause-told
returns-clause-told g c = (
  c.receive_from-result.new.receiver.end,
  subst (λ e. ReceivesFrom (calls.set_receive_max e file_stream c.args.terms.receive_max) c.receive_from-result.new.receiver.end (g.W.Write.contents (device_of c.args.writer.now)) (g.W.Write.contents (device_of c.receive_from-result.new.writer)) c.receive_from-result.result)
      c.into_parts-end.ensures.0 c.receive_from-result.ensures.told,
  c.totals.ensures,
)
