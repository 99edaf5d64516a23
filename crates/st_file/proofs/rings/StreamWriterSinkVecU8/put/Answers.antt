use Rattle.st_file.proofs.Items.{put_taken}
use Rattle.st_file.proofs.rings.StreamWriterSinkVecU8.put.Goals as goal

pub returns-in-Ok : goal.returns-in-Ok
returns-in-Ok g c = put_taken c.args.self.now c.try_write.new.self c.args.chunk c.in-Ok.ensures.ok.2 c.in-Ok.ensures.same.1
