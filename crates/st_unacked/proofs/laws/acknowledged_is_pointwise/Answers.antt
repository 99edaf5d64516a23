use Rattle.st_unacked.proofs.Pointwise.{acked_pointwise}
use Rattle.st_unacked.proofs.laws.acknowledged_is_pointwise.Goals as goal

pub returns : goal.returns
returns c = acked_pointwise
