use Rattle.std.proofs.Common.{arith}
use Rattle.st_sender.proofs.choose.spare.Goals as goal

pub returns-then-total-from : goal.returns-then-total-from
returns-then-total-from g c = omega (arith, c.if-total-from.true, c.from.ensures, (rw c.with.ensures at c.ends-total.ensures))

pub overflow_sub-result : goal.overflow_sub-result
overflow_sub-result g c = omega (arith, c.if-total-from.false, c.from.ensures, c.from-2.ensures)

pub returns : goal.returns
returns g c = (omega (arith, c.if-total-from.false, c.from.ensures, (rw c.with.ensures at c.ends-total.ensures)), omega (arith, c.from-2.ensures, (rw c.with.ensures at c.ends-total.ensures)))

pub with-requires : goal.with-requires
with-requires g c = c.requires.tops

pub ends-total-requires : goal.ends-total-requires
ends-total-requires g c = c.requires.streams
