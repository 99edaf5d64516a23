use Rattle.std.proofs.Common.{arith}
use Rattle.std.proofs.lemmas.Grind.{common_steps}
use Rattle.ilpstream_ends.proofs.receive.next_request.Goals as goal

pub loop-init : goal.loop-init
loop-init g c = grind (arith, common_steps)

pub returns-in_err-came-clause-silent : goal.returns-in_err-came-clause-silent
returns-in_err-came-clause-silent g c = grind (arith, common_steps)

pub returns-in_err-came-clause-turned : goal.returns-in_err-came-clause-turned
returns-in_err-came-clause-turned g c = grind (arith, common_steps)

pub returns-in_err-came-clause-unaccepted : goal.returns-in_err-came-clause-unaccepted
returns-in_err-came-clause-unaccepted g c = grind (arith, common_steps)

pub returns-in_err-came-clause-known : goal.returns-in_err-came-clause-known
returns-in_err-came-clause-known g c = grind (arith, common_steps)

pub returns-in-Some-came-clause-turned : goal.returns-in-Some-came-clause-turned
returns-in-Some-came-clause-turned g c = grind (arith, common_steps)

pub returns-in-Some-came-clause-unaccepted : goal.returns-in-Some-came-clause-unaccepted
returns-in-Some-came-clause-unaccepted g c = grind (arith, common_steps)

pub loop-preserved : goal.loop-preserved
loop-preserved g c = grind (arith, common_steps)

pub unreachable-requires : goal.unreachable-requires
unreachable-requires g c = grind (arith, common_steps)

pub unreachable-unreachable : goal.unreachable-unreachable
unreachable-unreachable g c = grind (arith, common_steps)
