use Rattle.st_world_quiet.proofs.end_laws.a_read_takes_all.Goals as goal
use Rattle.st_world_quiet.proofs.Reading.{insert_has, run_is_all}

pub returns-clause-held : goal.returns-clause-held
returns-clause-held g = λ xs o q s on unread from till. insert_has xs o q s on unread from till

pub returns-clause-run : goal.returns-clause-run
returns-clause-run g = λ s run end is_run l held none. run_is_all s run end is_run l held none
