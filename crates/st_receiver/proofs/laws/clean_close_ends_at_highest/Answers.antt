use Rattle.st_receiver.proofs.LawfulSteps.{close_at}
use Rattle.st_receiver.proofs.laws.clean_close_ends_at_highest.Goals as goal

pub returns : goal.returns
returns c = close_at
