use Rattle.st_aes.proofs.Lookups.{turned_cells}
use Rattle.st_aes.proofs.rows.turned.Goals as goal

pub returns : goal.returns
returns c = turned_cells c.args.a c.woven.result c.woven-2.result c.woven-3.result c.woven-4.result c.woven.ensures c.woven-2.ensures c.woven-3.ensures c.woven-4.ensures
