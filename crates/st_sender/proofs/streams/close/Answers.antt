use Rattle.std.proofs.Common.{arith}
use Rattle.st_sender.proofs.streams.close.Goals as goal

pub index_mut-requires : goal.index_mut-requires
index_mut-requires g c = omega (arith, c.if-place-len.false, c.len.ensures)
