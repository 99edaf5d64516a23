use Rattle.st_world_quiet.proofs.hop_laws.a_lossy_run_of_a_world_is_bounded.Goals as goal
use Rattle.st_world_quiet.proofs.LostPlays.{lossy_bounded, lossy_credits, lossy_delivers, lossy_ends, lossy_opens, lossy_puts, lossy_reads_whole, lossy_sharper}

pub returns-clause-bounded : goal.returns-clause-bounded
returns-clause-bounded g = λ c input money most streams limit m course v may run. lossy_bounded c input money most streams limit m course v may run

pub returns-clause-sharper : goal.returns-clause-sharper
returns-clause-sharper g = λ c input money most streams limit m course v may run. lossy_sharper c input money most streams limit m course v may run

pub returns-clause-sends : goal.returns-clause-sends
returns-clause-sends g = λ c input money most streams limit m course v may run. lossy_puts c input money most streams limit m course v may run

pub returns-clause-opens : goal.returns-clause-opens
returns-clause-opens g = λ c input money most streams limit m i course v may run low. lossy_opens c input money most streams limit m course v may run i low

pub returns-clause-delivered : goal.returns-clause-delivered
returns-clause-delivered g = λ c input money most streams limit m k course v x may run none at. lossy_delivers c input money most streams limit m course v may run k x none at

pub returns-clause-whole : goal.returns-clause-whole
returns-clause-whole g = λ c input money most streams limit m k course v x may run none at. lossy_reads_whole c input money most streams limit m course v may run k x none at

pub returns-clause-ends : goal.returns-clause-ends
returns-clause-ends g = λ c input money most streams limit m k bytes course v x may run none at. lossy_ends c input money most streams limit m course v may run k bytes x none at

pub returns-clause-credit : goal.returns-clause-credit
returns-clause-credit g = λ c input money most streams limit m course v may run none. lossy_credits c input money most streams limit m course v may run none
