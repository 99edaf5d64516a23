use Rattle.st_aes.proofs.Bits.{lane_small}
use Rattle.st_aes.proofs.wide_planes.of_bytes.Goals as goal

pub returns-clause-bytes : goal.returns-clause-bytes
returns-clause-bytes c l = lane_small c.args.a l c.fits-a.1
