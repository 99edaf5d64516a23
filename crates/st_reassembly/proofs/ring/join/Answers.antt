use Rattle.st_reassembly.specs.Ring.{cell}
use Rattle.st_reassembly.proofs.Laying.{joined_at}
use Rattle.st_reassembly.proofs.ring.join.Goals as goal

pub returns-clause-joins : goal.returns-clause-joins
returns-clause-joins g c q l m =
    joined_at (cell c.args.ring.now.bytes.items c.args.ring.now.marks.items q) (cell c.lay.new.ring.bytes.items c.lay.new.ring.marks.items q)
    c.args.piece.now c.args.offset c.args.low c.args.high c.max-start.result c.min-end.result q c.max-start.ensures c.min-end.ensures
    c.if-end-start.false c.requires.near l m (c.lay.ensures.lays q) (c.lay.ensures.around q)
