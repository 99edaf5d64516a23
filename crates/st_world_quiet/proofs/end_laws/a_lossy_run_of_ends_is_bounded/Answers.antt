use Rattle.st_end.specs.State.{new_end}
use Rattle.st_world_quiet.specs.Calls.{allow_each, begin_each, lengths, other}
use Rattle.st_world_quiet.specs.Losses.{lost_answers}
use Rattle.st_world_quiet.proofs.end_laws.a_lossy_run_of_ends_is_bounded.Goals as goal
use Rattle.st_world_quiet.proofs.LostRuns.{calls_lose, run_alive_by, run_bounded_by, run_delivered_by, run_sharper_by}

pub returns-clause-bounded : goal.returns-clause-bounded
returns-clause-bounded g' = λ role keys own peer config its_config input money most count fates g h may modest modest_most lose run.
    run_bounded_by (lengths input) money config fates (begin_each input money count (new_end role keys own peer config)) (allow_each most 0 65 (new_end (other role) keys peer own its_config)) g h modest (calls_lose role keys own peer config its_config input money most count (lost_answers fates) may modest modest_most lose) run

pub returns-clause-sharper : goal.returns-clause-sharper
returns-clause-sharper g' = λ role keys own peer config its_config input money most count fates g h may modest modest_most lose run.
    run_sharper_by (lengths input) money config fates (begin_each input money count (new_end role keys own peer config)) (allow_each most 0 65 (new_end (other role) keys peer own its_config)) g h modest (calls_lose role keys own peer config its_config input money most count (lost_answers fates) may modest modest_most lose) run

pub returns-clause-alive : goal.returns-clause-alive
returns-clause-alive g' = λ role keys own peer config its_config input money most count fates g h may modest modest_most lose run few.
    run_alive_by (lengths input) money config fates (begin_each input money count (new_end role keys own peer config)) (allow_each most 0 65 (new_end (other role) keys peer own its_config)) g h modest (calls_lose role keys own peer config its_config input money most count (lost_answers fates) may modest modest_most lose) run few

pub returns-clause-delivered : goal.returns-clause-delivered
returns-clause-delivered g' = λ role keys own peer config its_config input money most count k fates g h x may modest modest_most lose run alive done at.
    run_delivered_by (lengths input) money config fates (begin_each input money count (new_end role keys own peer config)) (allow_each most 0 65 (new_end (other role) keys peer own its_config)) g h k x modest (calls_lose role keys own peer config its_config input money most count (lost_answers fates) may modest modest_most lose) run alive done at
