use Rattle.std.proofs.Common.{refl}
use Rattle.st_aes.proofs.Fours.{sum_lane}
use Rattle.st_aes.proofs.factor_tables.sum_at.Goals as goal

pub returns : goal.returns
returns c l lt =
    sum_lane c.args.p c.args.q c.args.r c.args.s c.where_set.result c.where_set-2.result c.where_set-3.result c.where_set-4.result _ c.args.n l c.fits-p.0 c.fits-q.0 c.fits-r.0 c.fits-s.0 lt
    c.where_set.ensures c.where_set-2.ensures c.where_set-3.ensures c.where_set-4.ensures refl
