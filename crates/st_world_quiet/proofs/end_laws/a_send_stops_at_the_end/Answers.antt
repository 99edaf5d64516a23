use Rattle.st_world_quiet.proofs.end_laws.a_send_stops_at_the_end.Goals as goal
use Rattle.st_world_quiet.proofs.Lowering.{none_goes, some_goes}
use Rattle.st_world_quiet.proofs.Bound.{all_done}
use Rattle.st_world_quiet.proofs.Closing.{close_goes}

pub returns-clause-goes : goal.returns-clause-goes
returns-clause-goes g = λ n s limits quiet left. some_goes n s limits quiet left

pub returns-clause-stops : goal.returns-clause-stops
returns-clause-stops g = λ n s limits p quiet done. none_goes n s limits p quiet done

pub returns-clause-done : goal.returns-clause-done
returns-clause-done g = λ n s k x quiet done e. all_done n s k x quiet done e

pub returns-clause-closes : goal.returns-clause-closes
returns-clause-closes g = λ n s limits k x quiet none poor e unsettled. close_goes n s limits k x quiet none poor e unsettled
