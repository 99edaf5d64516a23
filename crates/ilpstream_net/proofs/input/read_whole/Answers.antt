use Rattle.std.proofs.Common.{arith}
use Rattle.std.proofs.lemmas.Grind.{common_steps}
use Rattle.ilpstream_net.proofs.input.read_whole.Goals as goal

pub loop-init : goal.loop-init
loop-init g c = grind (arith, common_steps)

pub returns-in_err-read_more-clause-whole : goal.returns-in_err-read_more-clause-whole
returns-in_err-read_more-clause-whole g c = grind (arith, common_steps)

pub returns-in_err-read_more-clause-faults : goal.returns-in_err-read_more-clause-faults
returns-in_err-read_more-clause-faults g c = grind (arith, common_steps)

pub returns-in_err-read_more-clause-why : goal.returns-in_err-read_more-clause-why
returns-in_err-read_more-clause-why g c = grind (arith, common_steps)

pub returns-then-branch-clause-whole : goal.returns-then-branch-clause-whole
returns-then-branch-clause-whole g c = grind (arith, common_steps)

pub returns-then-branch-clause-faults : goal.returns-then-branch-clause-faults
returns-then-branch-clause-faults g c = grind (arith, common_steps)

pub loop-preserved : goal.loop-preserved
loop-preserved g c = grind (arith, common_steps)

pub returns-clause-faults : goal.returns-clause-faults
returns-clause-faults g c = grind (arith, common_steps)

pub returns-clause-why : goal.returns-clause-why
returns-clause-why g c = grind (arith, common_steps)
