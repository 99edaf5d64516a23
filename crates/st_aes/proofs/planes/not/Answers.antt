use Rattle.st_aes.proofs.Bits.{not_lanes}
use Rattle.st_aes.proofs.planes.not.Goals as goal

pub returns : goal.returns
returns c l j lt few = not_lanes 16 c.args.a l j c.fits-a.0 lt few
