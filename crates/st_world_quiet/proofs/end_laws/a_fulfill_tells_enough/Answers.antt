use Rattle.st_receiver.specs.Limits.{reply_frames}
use Rattle.st_receiver.specs.Judged.{effect}
use Rattle.st_frames.specs.Frames.{frames_of}
use Rattle.st_world_quiet.proofs.end_laws.a_fulfill_tells_enough.Goals as goal
use Rattle.st_world_quiet.proofs.Replies.{reply_tells}
use Rattle.st_world_quiet.proofs.Enough.{tells_enough}

pub returns-clause-tells : goal.returns-clause-tells
returns-clause-tells g = λ n s limits p q r quiet sends fills abreast is. reply_tells n s limits p q r quiet sends fills abreast is

pub returns-clause-enough : goal.returns-clause-enough
returns-clause-enough g =
    λ n s limits p q r quiet sends fills small abreast is. tells_enough n s limits p (reply_frames (effect r q p.amount) (frames_of q)) quiet sends fills small (reply_tells n s limits p q r quiet sends fills abreast is)
