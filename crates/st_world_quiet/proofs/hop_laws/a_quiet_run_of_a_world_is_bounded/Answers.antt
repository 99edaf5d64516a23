use Rattle.std.proofs.Common.{◌∙◌}
use Rattle.st_world_quiet.proofs.hop_laws.a_quiet_run_of_a_world_is_bounded.Goals as goal
use Rattle.st_world_quiet.proofs.WorldRuns.{run_delivers, run_ends, run_is_bounded, run_money, run_opens, run_puts, run_reads_whole, run_sharper}

pub returns-clause-bounded : goal.returns-clause-bounded
returns-clause-bounded g = λ c input money count limit m v may run. run_is_bounded c input money count limit m v may run

pub returns-clause-sharper : goal.returns-clause-sharper
returns-clause-sharper g = λ c input money count limit m v may run. run_sharper c input money count limit m v may run

pub returns-clause-sends : goal.returns-clause-sends
returns-clause-sends g = λ c input money count limit m v may run. run_puts c input money count limit m v may run

pub returns-clause-delivered : goal.returns-clause-delivered
returns-clause-delivered g = λ c input money count limit m k v x may run none at.
    (let both = run_delivers c input money count limit m v may run k x none at in (both.0, both.1 ∙ run_money c input money count limit m v may run k x at))

pub returns-clause-whole : goal.returns-clause-whole
returns-clause-whole g = λ c input money count limit m k v x may run none at. run_reads_whole c input money count limit m v may run k x none at

pub returns-clause-opens : goal.returns-clause-opens
returns-clause-opens g = λ c input money count limit m i v may run low. run_opens c input money count limit m v may run i low

pub returns-clause-ends : goal.returns-clause-ends
returns-clause-ends g = λ c input money count limit m k most v x may run none at. run_ends c input money count limit m v may run k most x none at
