use Rattle.st_world_quiet.proofs.end_laws.a_load_is_read.Goals as goal
use Rattle.st_world_quiet.proofs.Holding.{packet_read}

pub returns : goal.returns
returns g = λ n s limits p q r k y quiet sends fills abreast is e. packet_read n s limits p q r k y quiet sends fills abreast is e
