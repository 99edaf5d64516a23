use Rattle.st_aes.proofs.Bits.{left_lanes_2}
use Rattle.st_aes.proofs.planes.left_2.Goals as goal

pub returns : goal.returns
returns c l j lt few = left_lanes_2 16 c.args.a l j c.fits-a.0 lt few
