use Rattle.st_aes.proofs.Bits.{right_lanes}
use Rattle.st_aes.proofs.planes.right_1.Goals as goal

pub returns : goal.returns
returns c l j lt = right_lanes 16 c.args.a 1 l j c.fits-a.0 lt
