use Rattle.st_world_quiet.proofs.end_laws.a_lossy_run_is_bounded.Goals as goal
use Rattle.st_world_quiet.proofs.Trying.{lossy_alive, lossy_bounded, lossy_carried, lossy_delivered, lossy_ended, lossy_offers, lossy_quiet, lossy_sharper}

pub returns-clause-bounded : goal.returns-clause-bounded
returns-clause-bounded g = λ n config fates s t u parity kept modest opening allows run. lossy_bounded n config fates s t u parity kept modest opening allows run

pub returns-clause-sharper : goal.returns-clause-sharper
returns-clause-sharper g = λ n config fates s t u parity kept modest opening allows run. lossy_sharper n config fates s t u parity kept modest opening allows run

pub returns-clause-quiet : goal.returns-clause-quiet
returns-clause-quiet g = λ n config fates s t u parity kept modest opening allows run alive. lossy_quiet n config fates s t u parity kept modest opening allows run alive

pub returns-clause-alive : goal.returns-clause-alive
returns-clause-alive g = λ n config fates s t u parity kept modest opening allows run few. lossy_alive n config fates s t u parity kept modest opening allows run few

pub returns-clause-delivered : goal.returns-clause-delivered
returns-clause-delivered g = λ n config fates s t u parity kept k x modest opening allows run alive done e. lossy_delivered n config fates s t u parity kept k x modest opening allows run alive done e

pub returns-clause-carried : goal.returns-clause-carried
returns-clause-carried g = λ n config fates s t u parity kept k x modest opening allows run e. lossy_carried n config fates s t u parity kept k x modest opening allows run e

pub returns-clause-offers : goal.returns-clause-offers
returns-clause-offers g = λ n config fates s t u parity kept k modest opening allows run. lossy_offers n config fates s t u parity kept k modest opening allows run

pub returns-clause-ended : goal.returns-clause-ended
returns-clause-ended g = λ n config fates s t u parity kept k most x modest opening allows run alive done e. lossy_ended n config fates s t u parity kept k most x modest opening allows run alive done e
