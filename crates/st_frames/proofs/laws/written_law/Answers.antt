use Rattle.st_frames.proofs.WrittenLaws.{packet_writes}
use Rattle.st_frames.proofs.laws.written_law.Goals as goal

pub returns : goal.returns
returns c = packet_writes
