use Rattle.st_aes.proofs.Fours.{low_ok, low_lane}
use Rattle.st_aes.proofs.factor_tables.at_low.Goals as goal

pub swizzle : goal.swizzle
swizzle c = low_ok c.args.v c.fits-v.0

pub returns : goal.returns
returns c l lt = low_lane c.args.table c.args.v l c.fits-v.0 lt
