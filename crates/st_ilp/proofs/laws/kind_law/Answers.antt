use Rattle.st_ilp.proofs.Apart.{kinds_apart}
use Rattle.st_ilp.proofs.laws.kind_law.Goals as goal

pub returns : goal.returns
returns c = kinds_apart
