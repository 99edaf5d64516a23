use Rattle.st_unacked.proofs.Pointwise.{failed_pointwise}
use Rattle.st_unacked.proofs.laws.failed_is_pointwise.Goals as goal

pub returns : goal.returns
returns c = failed_pointwise
