use Rattle.st_world_quiet.proofs.end_laws.a_run_is_bounded.Goals as goal
use Rattle.st_world_quiet.proofs.Running.{run_bounded, run_delivered}

pub returns-clause-bounded : goal.returns-clause-bounded
returns-clause-bounded g' = λ role keys own peer config its_config input money count limit m g h may modest modest_money run.
    run_bounded role keys own peer config its_config input money count limit m g h may modest modest_money run

pub returns-clause-delivered : goal.returns-clause-delivered
returns-clause-delivered g' = λ role keys own peer config its_config input money count limit m k g h x may modest modest_money run done at.
    run_delivered role keys own peer config its_config input money count limit m k g h x may modest modest_money run done at
