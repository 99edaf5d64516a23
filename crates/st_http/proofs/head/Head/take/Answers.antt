use Rattle.std.proofs.Common.{arith}
use Rattle.std.proofs.lemmas.Grind.{common_steps}
use Rattle.st_http.proofs.head.Head.take.Goals as goal

pub same-self : goal.same-self
same-self g c = grind (arith, common_steps)

pub loop-byte-init : goal.loop-byte-init
loop-byte-init g c = grind (arith, common_steps)

pub returns-then-is_err-clause-unchanged : goal.returns-then-is_err-clause-unchanged
returns-then-is_err-clause-unchanged g c = grind (arith, common_steps)

pub overflow_add-taken : goal.overflow_add-taken
overflow_add-taken g c = grind (arith, common_steps)

pub same-self-then-ends : goal.same-self-then-ends
same-self-then-ends g c = grind (arith, common_steps)

pub returns-then-ends-clause-taken : goal.returns-then-ends-clause-taken
returns-then-ends-clause-taken g c = grind (arith, common_steps)

pub returns-then-ends-clause-some : goal.returns-then-ends-clause-some
returns-then-ends-clause-some g c = grind (arith, common_steps)

pub returns-then-ends-clause-short : goal.returns-then-ends-clause-short
returns-then-ends-clause-short g c = grind (arith, common_steps)

pub returns-then-ends-clause-ended : goal.returns-then-ends-clause-ended
returns-then-ends-clause-ended g c = grind (arith, common_steps)

pub same-self-then-len-eq-MAX_HEAD : goal.same-self-then-len-eq-MAX_HEAD
same-self-then-len-eq-MAX_HEAD g c = grind (arith, common_steps)

pub returns-then-len-eq-MAX_HEAD-clause-taken : goal.returns-then-len-eq-MAX_HEAD-clause-taken
returns-then-len-eq-MAX_HEAD-clause-taken g c = grind (arith, common_steps)

pub returns-then-len-eq-MAX_HEAD-clause-some : goal.returns-then-len-eq-MAX_HEAD-clause-some
returns-then-len-eq-MAX_HEAD-clause-some g c = grind (arith, common_steps)

pub returns-then-len-eq-MAX_HEAD-clause-short : goal.returns-then-len-eq-MAX_HEAD-clause-short
returns-then-len-eq-MAX_HEAD-clause-short g c = grind (arith, common_steps)

pub returns-then-len-eq-MAX_HEAD-clause-open : goal.returns-then-len-eq-MAX_HEAD-clause-open
returns-then-len-eq-MAX_HEAD-clause-open g c = grind (arith, common_steps)

pub same-self-else-len-eq-MAX_HEAD : goal.same-self-else-len-eq-MAX_HEAD
same-self-else-len-eq-MAX_HEAD g c = grind (arith, common_steps)

pub loop-byte-preserved : goal.loop-byte-preserved
loop-byte-preserved g c = grind (arith, common_steps)

pub returns-clause-taken : goal.returns-clause-taken
returns-clause-taken g c = grind (arith, common_steps)

pub returns-clause-some : goal.returns-clause-some
returns-clause-some g c = grind (arith, common_steps)

pub returns-clause-short : goal.returns-clause-short
returns-clause-short g c = grind (arith, common_steps)

pub returns-clause-open : goal.returns-clause-open
returns-clause-open g c = grind (arith, common_steps)
