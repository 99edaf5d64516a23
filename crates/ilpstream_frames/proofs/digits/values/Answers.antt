use Rattle.std.proofs.Common.{refl}
use Rattle.ilpstream_frames.proofs.digits.values.Goals as goal

pub returns : goal.returns
returns c = refl
