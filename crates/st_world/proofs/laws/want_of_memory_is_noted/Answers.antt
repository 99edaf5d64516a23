-- By the moves.
use Rattle.st_world.proofs.laws.want_of_memory_is_noted.Goals as goal
use Rattle.st_world.proofs.EveryRun.{step_refused}

pub returns-clause-met : goal.returns-clause-met
returns-clause-met c = step_refused
