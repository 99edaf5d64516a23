use Rattle.st_aes.proofs.Bits.{product_lanes}
use Rattle.st_aes.proofs.planes.and.Goals as goal

pub returns : goal.returns
returns c l j lt = product_lanes 16 c.args.a c.args.b l j c.fits-a.0 c.fits-b.0 lt
