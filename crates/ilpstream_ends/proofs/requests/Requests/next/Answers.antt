use Rattle.std.proofs.Common.{arith}
use Rattle.std.proofs.lemmas.Grind.{common_steps}
use Rattle.ilpstream_ends.proofs.requests.Requests.next.Goals as goal

pub returns-in_err-asked-clause-silent : goal.returns-in_err-asked-clause-silent
returns-in_err-asked-clause-silent g c = grind (arith, common_steps)

pub returns-in_err-asked-clause-turned : goal.returns-in_err-asked-clause-turned
returns-in_err-asked-clause-turned g c = grind (arith, common_steps)

pub returns-in_err-asked-clause-unaccepted : goal.returns-in_err-asked-clause-unaccepted
returns-in_err-asked-clause-unaccepted g c = grind (arith, common_steps)

pub returns-in_err-asked-clause-known : goal.returns-in_err-asked-clause-known
returns-in_err-asked-clause-known g c = grind (arith, common_steps)

pub returns-in-Some-clause-turned : goal.returns-in-Some-clause-turned
returns-in-Some-clause-turned g c = grind (arith, common_steps)

pub returns-in-Some-clause-unaccepted : goal.returns-in-Some-clause-unaccepted
returns-in-Some-clause-unaccepted g c = grind (arith, common_steps)

pub returns-in_err-left-clause-silent : goal.returns-in_err-left-clause-silent
returns-in_err-left-clause-silent g c = grind (arith, common_steps)

pub returns-in_err-left-clause-turned : goal.returns-in_err-left-clause-turned
returns-in_err-left-clause-turned g c = grind (arith, common_steps)

pub returns-in_err-left-clause-unaccepted : goal.returns-in_err-left-clause-unaccepted
returns-in_err-left-clause-unaccepted g c = grind (arith, common_steps)

pub returns-in_err-left-clause-known : goal.returns-in_err-left-clause-known
returns-in_err-left-clause-known g c = grind (arith, common_steps)

pub returns-clause-turned : goal.returns-clause-turned
returns-clause-turned g c = grind (arith, common_steps)

pub returns-clause-unaccepted : goal.returns-clause-unaccepted
returns-clause-unaccepted g c = grind (arith, common_steps)
