use Rattle.st_world_quiet.proofs.end_laws.reads_take_all.Goals as goal
use Rattle.st_world_quiet.proofs.ReadingOut.{each_read}

pub returns : goal.returns
returns g = λ limit r slots alive short. each_read limit r slots alive short
