-- By its pass.
use Rattle.st_world.proofs.laws.hops_stay_lawful.Goals as goal
use Rattle.st_world.proofs.EveryRun.{hops_lawful}

pub returns : goal.returns
returns c = hops_lawful
