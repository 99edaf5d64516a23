use Rattle.st_aes.proofs.Fours.{added_lane}
use Rattle.st_aes.proofs.factor_tables.added.Goals as goal

pub returns : goal.returns
returns c l lt = added_lane c.args.a c.args.b l c.fits-a.0 c.fits-b.0 lt
