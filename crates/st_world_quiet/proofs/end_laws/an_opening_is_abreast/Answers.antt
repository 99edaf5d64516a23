use Rattle.st_world_quiet.proofs.end_laws.an_opening_is_abreast.Goals as goal
use Rattle.st_world_quiet.proofs.EndOpening.{opening_abreast}

pub returns : goal.returns
returns g = λ n config s parity kept modest opening allows. opening_abreast n config s parity kept modest opening allows
