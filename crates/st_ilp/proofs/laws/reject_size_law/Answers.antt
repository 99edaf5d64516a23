use Rattle.st_ilp.proofs.Sizes.{rejects_have_size}
use Rattle.st_ilp.proofs.laws.reject_size_law.Goals as goal

pub returns : goal.returns
returns c = rejects_have_size
