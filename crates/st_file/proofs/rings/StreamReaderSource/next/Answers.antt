use Rattle.st_file.proofs.Items.{next_given}
use Rattle.st_file.proofs.rings.StreamReaderSource.next.Goals as goal

pub returns : goal.returns
returns g c = next_given c.args.self.now c.try_read.new.self c.try_read.result c.try_read.ensures.read
