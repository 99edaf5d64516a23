use Rattle.std.proofs.Common.{arith}
use Rattle.st_hub.proofs.pumping.is_last.Goals as goal

pub returns : goal.returns
returns g c i li ne = c.loop-other.invariant i (let e = c.loop-other-test.false in omega arith) ne
