use Rattle.st_aes.proofs.Bits.{right_lanes}
use Rattle.st_aes.proofs.planes.right_4.Goals as goal

pub returns : goal.returns
returns c l j lt = right_lanes 16 c.args.a 4 l j c.fits-a.0 lt
