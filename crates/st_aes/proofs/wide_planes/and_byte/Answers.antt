use Rattle.st_aes.proofs.Bits.{masked_lanes}
use Rattle.st_aes.proofs.wide_planes.and_byte.Goals as goal

pub returns : goal.returns
returns c l j lt = masked_lanes 32 c.args.a c.args.m l j c.fits-a.0 lt
