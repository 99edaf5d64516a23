use Rattle.st_world_quiet.proofs.end_laws.a_load_is_fulfilled.Goals as goal
use Rattle.st_world_quiet.proofs.Fulfilling.{load_fulfilled}

pub returns : goal.returns
returns g = λ n s limits p q r quiet sends fills abreast is. load_fulfilled n s limits p q r quiet sends fills abreast is
