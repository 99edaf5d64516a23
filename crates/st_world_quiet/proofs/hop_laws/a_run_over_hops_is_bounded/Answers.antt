use Rattle.st_world_quiet.proofs.hop_laws.a_run_over_hops_is_bounded.Goals as goal
use Rattle.st_end.specs.State.{new_end}
use Rattle.st_world_quiet.specs.Calls.{allow_each, begin_each, other}
use Rattle.st_world_quiet.proofs.Running.{run_bounded, run_delivered}
use Rattle.st_world_quiet.proofs.HopRuns.{opening_stands, run_turns, turns_lower}

pub returns-clause-bounded : goal.returns-clause-bounded
returns-clause-bounded g' = λ role keys own peer config its_config input money count limit m hops others g h room may modest modest_money calm run.
    run_bounded role keys own peer config its_config input money count limit m g h may modest modest_money (run_turns role keys own peer config its_config input money count limit m hops others g h room may modest modest_money calm run).0

pub returns-clause-sharper : goal.returns-clause-sharper
returns-clause-sharper g' = λ role keys own peer config its_config input money count limit m hops others g h room may modest modest_money calm run.
    turns_lower input limit m (begin_each input money count (new_end role keys own peer config)) (allow_each money 0 65 (new_end (other role) keys peer own its_config)) g h modest
    (opening_stands role keys own peer config its_config input money count may modest modest_money).0
    (run_turns role keys own peer config its_config input money count limit m hops others g h room may modest modest_money calm run).0

pub returns-clause-delivered : goal.returns-clause-delivered
returns-clause-delivered g' = λ role keys own peer config its_config input money count limit m k hops others g h x room may modest modest_money calm run done at.
    run_delivered role keys own peer config its_config input money count limit m k g h x may modest modest_money (run_turns role keys own peer config its_config input money count limit m hops others g h room may modest modest_money calm run).0 done at
