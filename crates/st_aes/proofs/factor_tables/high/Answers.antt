use Rattle.st_aes.proofs.Fours.{high_lane}
use Rattle.st_aes.proofs.factor_tables.high.Goals as goal

pub returns : goal.returns
returns c l lt = high_lane c.args.v l c.fits-v.0 lt
