use Rattle.st_world_quiet.proofs.end_laws.a_round_keeps_abreast.Goals as goal
use Rattle.st_world_quiet.proofs.Abreast.{round_abreast}

pub returns : goal.returns
returns g = λ n s t limits p q r u quiet sends fills abreast is out writes. round_abreast n s t limits p q r u quiet sends fills abreast is out writes
