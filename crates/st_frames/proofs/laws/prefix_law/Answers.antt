use Rattle.st_frames.proofs.Prefixes.{none_begins}
use Rattle.st_frames.proofs.laws.prefix_law.Goals as goal

pub returns : goal.returns
returns c = none_begins
