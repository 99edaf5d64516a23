use Rattle.st_ilp.proofs.PacketReads.{prepare_reads}
use Rattle.st_ilp.proofs.laws.prepare_law.Goals as goal

pub returns : goal.returns
returns c = prepare_reads
