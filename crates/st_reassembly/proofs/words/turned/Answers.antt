use Rattle.std.proofs.Common.{arith}
use Rattle.st_reassembly.proofs.Bits.{has_bit-not}
use Rattle.st_reassembly.proofs.words.turned.Goals as goal

pub returns-else-same : goal.returns-else-same
returns-else-same c i l = rw c.if-same.false (has_bit-not c.args.word i (omega arith) l)
