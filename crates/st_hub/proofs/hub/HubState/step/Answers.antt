use Rattle.std.proofs.Common.{arith}
use Rattle.std.proofs.lemmas.Grind.{common_steps}
use Rattle.st_hub.proofs.hub.HubState.step.Goals as goal

pub unreachable-requires : goal.unreachable-requires
unreachable-requires g c = grind (arith, common_steps)

pub unreachable-unreachable : goal.unreachable-unreachable
unreachable-unreachable g c = grind (arith, common_steps)

pub is_stalled-requires : goal.is_stalled-requires
is_stalled-requires g c = grind (arith, common_steps)

pub returns-in-Ok-Some-clause-does : goal.returns-in-Ok-Some-clause-does
returns-in-Ok-Some-clause-does g c = grind (arith, common_steps)

pub returns-in-Ok-Some-clause-rest : goal.returns-in-Ok-Some-clause-rest
returns-in-Ok-Some-clause-rest g c = grind (arith, common_steps)

pub returns-then-is_stalled-clause-does : goal.returns-then-is_stalled-clause-does
returns-then-is_stalled-clause-does g c = grind (arith, common_steps)

pub returns-then-is_stalled-clause-rest : goal.returns-then-is_stalled-clause-rest
returns-then-is_stalled-clause-rest g c = grind (arith, common_steps)

pub returns-else-is_stalled-clause-does : goal.returns-else-is_stalled-clause-does
returns-else-is_stalled-clause-does g c = grind (arith, common_steps)

pub returns-else-is_stalled-clause-rest : goal.returns-else-is_stalled-clause-rest
returns-else-is_stalled-clause-rest g c = grind (arith, common_steps)

pub returns-in-Err-clause-only_memory : goal.returns-in-Err-clause-only_memory
returns-in-Err-clause-only_memory g c = grind (arith, common_steps)

pub returns-in-Err-clause-unchanged : goal.returns-in-Err-clause-unchanged
returns-in-Err-clause-unchanged g c = grind (arith, common_steps)

pub returns-in-Err-clause-rest : goal.returns-in-Err-clause-rest
returns-in-Err-clause-rest g c = grind (arith, common_steps)
