use Rattle.st_end.specs.State.{new_end}
use Rattle.st_world_quiet.specs.Calls.{allow_each, begin_each, lengths, other}
use Rattle.st_world_quiet.specs.Losses.{lost_answers}
use Rattle.st_world_quiet.proofs.end_laws.a_lossy_run_by_calls_is_bounded.Goals as goal
use Rattle.st_world_quiet.proofs.LostRuns.{calls_lose, calls_trips, run_alive_by, run_bounded_by, run_delivered_by, run_ended_by}

pub returns-clause-bounded : goal.returns-clause-bounded
returns-clause-bounded g' = λ role keys own peer config its_config input money most count limit fates g h may modest modest_most lose few run.
    run_bounded_by (lengths input) money config fates (begin_each input money count (new_end role keys own peer config)) (allow_each most 0 65 (new_end (other role) keys peer own its_config)) g h modest (calls_lose role keys own peer config its_config input money most count (lost_answers fates) may modest modest_most lose)
    (calls_trips role keys own peer config its_config input money most count limit fates g h may modest modest_most lose few run)

pub returns-clause-goes_on : goal.returns-clause-goes_on
returns-clause-goes_on g' = λ role keys own peer config its_config input money most count limit fates g h may modest modest_most lose few run.
    run_alive_by (lengths input) money config fates (begin_each input money count (new_end role keys own peer config)) (allow_each most 0 65 (new_end (other role) keys peer own its_config)) g h modest (calls_lose role keys own peer config its_config input money most count (lost_answers fates) may modest modest_most lose)
    (calls_trips role keys own peer config its_config input money most count limit fates g h may modest modest_most lose few run) few

pub returns-clause-delivered : goal.returns-clause-delivered
returns-clause-delivered g' = λ role keys own peer config its_config input money most count limit fates g h k x may modest modest_most lose few run done at.
    run_delivered_by (lengths input) money config fates (begin_each input money count (new_end role keys own peer config)) (allow_each most 0 65 (new_end (other role) keys peer own its_config)) g h k x modest (calls_lose role keys own peer config its_config input money most count (lost_answers fates) may modest modest_most lose)
    (calls_trips role keys own peer config its_config input money most count limit fates g h may modest modest_most lose few run)
    (run_alive_by (lengths input) money config fates (begin_each input money count (new_end role keys own peer config)) (allow_each most 0 65 (new_end (other role) keys peer own its_config)) g h modest (calls_lose role keys own peer config its_config input money most count (lost_answers fates) may modest modest_most lose)
    (calls_trips role keys own peer config its_config input money most count limit fates g h may modest modest_most lose few run) few) done at

pub returns-clause-ended : goal.returns-clause-ended
returns-clause-ended g' = λ role keys own peer config its_config input money most count limit fates g h k bytes x may modest modest_most lose few run done at.
    run_ended_by (lengths input) money config fates (begin_each input money count (new_end role keys own peer config)) (allow_each most 0 65 (new_end (other role) keys peer own its_config)) g h k bytes x modest (calls_lose role keys own peer config its_config input money most count (lost_answers fates) may modest modest_most lose)
    (calls_trips role keys own peer config its_config input money most count limit fates g h may modest modest_most lose few run)
    (run_alive_by (lengths input) money config fates (begin_each input money count (new_end role keys own peer config)) (allow_each most 0 65 (new_end (other role) keys peer own its_config)) g h modest (calls_lose role keys own peer config its_config input money most count (lost_answers fates) may modest modest_most lose)
    (calls_trips role keys own peer config its_config input money most count limit fates g h may modest modest_most lose few run) few) done at
