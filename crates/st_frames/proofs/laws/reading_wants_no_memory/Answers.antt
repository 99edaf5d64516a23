use Rattle.st_frames.proofs.Memory.{reads_without_memory}
use Rattle.st_frames.proofs.laws.reading_wants_no_memory.Goals as goal

pub returns : goal.returns
returns c = reads_without_memory
