use Rattle.std.proofs.Common.{arith}
use Rattle.std.proofs.lemmas.Grind.{common_steps}
use Rattle.st_sender.proofs.streams.abort.Goals as goal

pub index_mut-requires : goal.index_mut-requires
index_mut-requires g c = omega (arith, c.if-place-len.false, c.len.ensures)

pub returns-then-place-len-clause-unchanged : goal.returns-then-place-len-clause-unchanged
returns-then-place-len-clause-unchanged g c = grind (arith, common_steps)

pub returns-then-place-len-clause-refuses : goal.returns-then-place-len-clause-refuses
returns-then-place-len-clause-refuses g c = grind (arith, common_steps)

pub returns-then-is_aborted-clause-unchanged : goal.returns-then-is_aborted-clause-unchanged
returns-then-is_aborted-clause-unchanged g c = grind (arith, common_steps)

pub returns-then-is_aborted-clause-refuses : goal.returns-then-is_aborted-clause-refuses
returns-then-is_aborted-clause-refuses g c = grind (arith, common_steps)

pub returns-in-None-clause-unchanged : goal.returns-in-None-clause-unchanged
returns-in-None-clause-unchanged g c = grind (arith, common_steps)

pub returns-in-None-clause-refuses : goal.returns-in-None-clause-refuses
returns-in-None-clause-refuses g c = grind (arith, common_steps)

pub returns-else-is_aborted-clause-aborts : goal.returns-else-is_aborted-clause-aborts
returns-else-is_aborted-clause-aborts g c = grind (arith, common_steps)

pub returns-else-is_aborted-clause-refuses : goal.returns-else-is_aborted-clause-refuses
returns-else-is_aborted-clause-refuses g c = grind (arith, common_steps)
