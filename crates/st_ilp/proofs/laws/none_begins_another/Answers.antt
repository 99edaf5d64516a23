use Rattle.st_ilp.proofs.PacketReads.{none_begins}
use Rattle.st_ilp.proofs.laws.none_begins_another.Goals as goal

pub returns : goal.returns
returns c = none_begins
