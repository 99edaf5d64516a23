use Rattle.std.proofs.Common.{arith}
use Rattle.st_aes.proofs.Bits.{moved_lanes}
use Rattle.st_aes.specs.Planes.{column_turned}
use Rattle.st_aes.proofs.wide_planes.two_down.Goals as goal

pub returns : goal.returns
returns c l j lt = moved_lanes 32 c.args.a (column_turned 2) l j c.fits-a.0 lt (omega arith)
