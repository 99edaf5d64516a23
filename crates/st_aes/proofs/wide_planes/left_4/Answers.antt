use Rattle.st_aes.proofs.Bits.{left_lanes_4}
use Rattle.st_aes.proofs.wide_planes.left_4.Goals as goal

pub returns : goal.returns
returns c l j lt few = left_lanes_4 32 c.args.a l j c.fits-a.0 lt few
