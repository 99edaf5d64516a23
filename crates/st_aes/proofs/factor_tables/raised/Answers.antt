use Rattle.st_aes.proofs.Fours.{raised_lane}
use Rattle.st_aes.proofs.factor_tables.raised.Goals as goal

pub returns : goal.returns
returns c l lt = raised_lane c.args.v l c.fits-v.0 lt
