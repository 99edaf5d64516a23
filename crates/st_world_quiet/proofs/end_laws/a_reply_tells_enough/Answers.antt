use Rattle.st_world_quiet.proofs.end_laws.a_reply_tells_enough.Goals as goal
use Rattle.st_world_quiet.proofs.Enough.{tells_enough}

pub returns : goal.returns
returns g = λ n s limits p told quiet sends fills small tells. tells_enough n s limits p told quiet sends fills small tells
