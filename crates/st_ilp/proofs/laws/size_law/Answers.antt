use Rattle.st_ilp.proofs.Sizes.{texts_have_size}
use Rattle.st_ilp.proofs.laws.size_law.Goals as goal

pub returns : goal.returns
returns c = texts_have_size
