use Rattle.st_world_quiet.proofs.end_laws.exchanges_are_bounded.Goals as goal
use Rattle.st_world_quiet.proofs.Bound.{opening_quiet, sends_bounded}
use Rattle.st_world_quiet.proofs.EndRounds.{rounds_lower}
use Rattle.st_world_quiet.proofs.Exchanging.{all_delivered, exchanges_rounds}

pub returns-clause-bounded : goal.returns-clause-bounded
returns-clause-bounded g = λ n config m s t r u modest opening abreast run. sends_bounded n config m s t opening (exchanges_rounds n m s r t u modest (opening_quiet n config s opening) abreast run).0

pub returns-clause-sharper : goal.returns-clause-sharper
returns-clause-sharper g =
    λ n config m s t r u modest opening abreast run. (let quiet = opening_quiet n config s opening in (rounds_lower n m s t quiet (exchanges_rounds n m s r t u modest quiet abreast run).0).0)

pub returns-clause-abreast : goal.returns-clause-abreast
returns-clause-abreast g =
    λ n config m s t r u modest opening abreast run.
    (let quiet = opening_quiet n config s opening in let both = exchanges_rounds n m s r t u modest quiet abreast run in ((rounds_lower n m s t quiet both.0).1, both.1))

pub returns-clause-delivered : goal.returns-clause-delivered
returns-clause-delivered g = λ n s r k x quiet abreast done e. all_delivered n s r k x quiet abreast done e
