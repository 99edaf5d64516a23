use Rattle.st_ilp.proofs.PacketReads.{answer_reads}
use Rattle.st_ilp.proofs.laws.answer_law.Goals as goal

pub returns : goal.returns
returns c = answer_reads
