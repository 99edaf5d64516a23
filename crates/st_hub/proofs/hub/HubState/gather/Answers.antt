use Rattle.std.proofs.Common.{arith}
use Rattle.std.proofs.lemmas.Grind.{common_steps}
use Rattle.st_hub.proofs.hub.HubState.gather.Goals as goal

pub same-self : goal.same-self
same-self g c = grind (arith, common_steps)

pub returns-then-len-self-clause-missing : goal.returns-then-len-self-clause-missing
returns-then-len-self-clause-missing g c = grind (arith, common_steps)

pub loop-share-init : goal.loop-share-init
loop-share-init g c = grind (arith, common_steps)

pub loop-share-preserved : goal.loop-share-preserved
loop-share-preserved g c = grind (arith, common_steps)
