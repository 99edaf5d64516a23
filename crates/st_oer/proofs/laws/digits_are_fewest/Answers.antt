use Rattle.st_oer.proofs.Fields.{are_fewest}
use Rattle.st_oer.proofs.laws.digits_are_fewest.Goals as goal

pub returns : goal.returns
returns c = are_fewest
