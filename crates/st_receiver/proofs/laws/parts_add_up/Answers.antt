use Rattle.st_receiver.proofs.Splits.{parts-sum}
use Rattle.st_receiver.proofs.laws.parts_add_up.Goals as goal

pub returns : goal.returns
returns c = parts-sum
