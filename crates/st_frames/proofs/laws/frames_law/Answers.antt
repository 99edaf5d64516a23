use Rattle.st_frames.proofs.WrittenLaws.{keeps_frames}
use Rattle.st_frames.proofs.laws.frames_law.Goals as goal

pub returns : goal.returns
returns c = keeps_frames
