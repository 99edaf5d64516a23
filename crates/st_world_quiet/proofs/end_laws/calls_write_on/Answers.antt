use Rattle.st_world_quiet.proofs.end_laws.calls_write_on.Goals as goal
use Rattle.st_world_quiet.proofs.Feeding.{each_written}

pub returns : goal.returns
returns g = λ input e can. each_written input e can
