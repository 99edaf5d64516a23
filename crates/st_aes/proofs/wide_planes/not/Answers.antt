use Rattle.st_aes.proofs.Bits.{not_lanes}
use Rattle.st_aes.proofs.wide_planes.not.Goals as goal

pub returns : goal.returns
returns c l j lt few = not_lanes 32 c.args.a l j c.fits-a.0 lt few
