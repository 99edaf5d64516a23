use Rattle.st_world_quiet.proofs.end_laws.sends_are_bounded.Goals as goal
use Rattle.st_world_quiet.proofs.EndRounds.{rounds_lower}
use Rattle.st_world_quiet.proofs.Bound.{opening_quiet, sends_bounded}

pub returns-clause-bounded : goal.returns-clause-bounded
returns-clause-bounded g = λ n config m s t opening run. sends_bounded n config m s t opening run

pub returns-clause-sharper : goal.returns-clause-sharper
returns-clause-sharper g = λ n config m s t opening run. (rounds_lower n m s t (opening_quiet n config s opening) run).0

pub returns-clause-quiet : goal.returns-clause-quiet
returns-clause-quiet g = λ n config m s t opening run. (rounds_lower n m s t (opening_quiet n config s opening) run).1
