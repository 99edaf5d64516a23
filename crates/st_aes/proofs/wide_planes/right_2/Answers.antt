use Rattle.st_aes.proofs.Bits.{right_lanes}
use Rattle.st_aes.proofs.wide_planes.right_2.Goals as goal

pub returns : goal.returns
returns c l j lt = right_lanes 32 c.args.a 2 l j c.fits-a.0 lt
