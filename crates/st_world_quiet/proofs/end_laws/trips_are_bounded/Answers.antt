use Rattle.st_world_quiet.proofs.end_laws.trips_are_bounded.Goals as goal
use Rattle.st_world_quiet.proofs.Bound.{opening_quiet, sends_bounded}
use Rattle.st_world_quiet.proofs.EndRounds.{rounds_lower}
use Rattle.st_world_quiet.proofs.Exchanging.{all_delivered, exchanges_rounds}
use Rattle.st_world_quiet.proofs.Trips.{trips_exchanges}

pub returns-clause-bounded : goal.returns-clause-bounded
returns-clause-bounded g' = λ n config m e f g h modest opening abreast joined tellable run.
    (let quiet = opening_quiet n config e.sending opening in
    sends_bounded n config m e.sending g.sending opening (exchanges_rounds n m e.sending f.receiving g.sending h.receiving modest quiet abreast (trips_exchanges n m e f g h modest quiet abreast joined tellable run)).0)

pub returns-clause-exchanges : goal.returns-clause-exchanges
returns-clause-exchanges g' = λ n config m e f g h modest opening abreast joined tellable run. trips_exchanges n m e f g h modest (opening_quiet n config e.sending opening) abreast joined tellable run

pub returns-clause-delivered : goal.returns-clause-delivered
returns-clause-delivered g' = λ n config m k e f g h x modest opening abreast joined tellable run done at.
    (let quiet = opening_quiet n config e.sending opening in
    let both = exchanges_rounds n m e.sending f.receiving g.sending h.receiving modest quiet abreast (trips_exchanges n m e f g h modest quiet abreast joined tellable run) in
    all_delivered n g.sending h.receiving k x (rounds_lower n m e.sending g.sending quiet both.0).1 both.1 done at)
