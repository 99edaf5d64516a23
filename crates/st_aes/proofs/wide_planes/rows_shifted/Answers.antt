use Rattle.std.proofs.Common.{arith}
use Rattle.st_aes.proofs.Bits.{moved_lanes}
use Rattle.st_aes.specs.Planes.{row_turned}
use Rattle.st_aes.proofs.wide_planes.rows_shifted.Goals as goal

pub returns : goal.returns
returns c l j lt = moved_lanes 32 c.args.a row_turned l j c.fits-a.0 lt (omega arith)
