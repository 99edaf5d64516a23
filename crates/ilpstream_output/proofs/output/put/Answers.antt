use Rattle.std.proofs.Common.{length, arith}
use Rattle.std.proofs.KnownBytes.{Appends-kept}
use Rattle.std.proofs.lemmas.List.{take_all}
use Rattle.st_devices.specs.Tallies.{device_of}
use Rattle.ilpstream_output.proofs.output.put.Goals as goal

pub returns-in-Ok-clause-part : goal.returns-in-Ok-clause-part
returns-in-Ok-clause-part g c = (
  length c.args.text.now,
  rw (take_all (length c.args.text.now) c.args.text.now (omega arith))
      (Appends-kept (g.W.Write.contents (device_of c.args.writer.now)) (g.W.Write.contents (device_of c.put_all.new.writer)) (g.W.Write.contents (device_of c.flush.new.writer)) c.args.text.now c.in-Ok.ensures.whole c.flush.ensures.bytes),
)
