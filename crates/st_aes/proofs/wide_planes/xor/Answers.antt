use Rattle.st_aes.proofs.Bits.{sum_lanes}
use Rattle.st_aes.proofs.wide_planes.xor.Goals as goal

pub returns : goal.returns
returns c l j lt = sum_lanes 32 c.args.a c.args.b l j c.fits-a.0 c.fits-b.0 lt
