use Rattle.std.proofs.Common.{ap, arith}
use Rattle.st_sender.specs.Sending.{Sending}
use Rattle.st_world_quiet.proofs.end_laws.a_lost_send_costs_itself.Goals as goal
use Rattle.st_world_quiet.proofs.Bound.{opening_quiet}
use Rattle.st_world_quiet.proofs.Losing.{attempts_alive, attempts_bounded, attempts_lower, few_enough}

pub returns-clause-bounded : goal.returns-clause-bounded
returns-clause-bounded g = λ n config fates s t opening run. attempts_bounded n config fates s t opening run

pub returns-clause-sharper : goal.returns-clause-sharper
returns-clause-sharper g = λ n config fates s t opening run. (attempts_lower n fates s t (λ alive. opening_quiet n config s opening) run).0

pub returns-clause-quiet : goal.returns-clause-quiet
returns-clause-quiet g = λ n config fates s t opening run alive. (attempts_lower n fates s t (λ alive. opening_quiet n config s opening) run).1 alive

pub returns-clause-alive : goal.returns-clause-alive
returns-clause-alive g = λ n config fates s t opening run few. attempts_alive n fates s t 0 (opening_quiet n config s opening) run (ap (λ (z : Sending). z.failures) opening.rest) few

pub returns-clause-few : goal.returns-clause-few
returns-clause-few g = λ fates few. few_enough fates 0 (omega (arith, few))
