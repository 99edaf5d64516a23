use Rattle.st_world_quiet.proofs.end_laws.a_send_may_be_lost.Goals as goal
use Rattle.st_world_quiet.proofs.LostWitness.{answer_may_be_lost, prepare_may_be_lost}

pub returns-clause-prepare : goal.returns-clause-prepare
returns-clause-prepare g = λ n c s r k x quiet ahead none poor e unsettled left. prepare_may_be_lost n s r k x quiet ahead none poor e unsettled left

pub returns-clause-answer : goal.returns-clause-answer
returns-clause-answer g = λ n c s r k x quiet ahead none poor e unsettled left. answer_may_be_lost n s r k x quiet ahead none poor e unsettled left
