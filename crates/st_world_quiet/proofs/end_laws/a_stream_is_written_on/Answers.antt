use Rattle.st_world_quiet.proofs.end_laws.a_stream_is_written_on.Goals as goal
use Rattle.st_world_quiet.proofs.Writing.{refilled_clean, refilled_more}

pub returns-clause-more : goal.returns-clause-more
returns-clause-more g = λ n x more short far. refilled_more n x more short far

pub returns-clause-closed : goal.returns-clause-closed
returns-clause-closed g = λ n x more all. refilled_clean n x more all
