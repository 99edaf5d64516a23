use Rattle.st_world_quiet.proofs.end_laws.a_load_is_short.Goals as goal
use Rattle.st_world_quiet.proofs.Short.{run_short}

pub returns : goal.returns
returns g = λ n s limits p q r k quiet sends fills abreast is. run_short n s limits p q r k quiet sends fills abreast is
