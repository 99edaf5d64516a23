use Rattle.st_world_quiet.proofs.end_laws.calls_open.Goals as goal
use Rattle.st_world_quiet.proofs.Beginning.{begun_opening, calls_begun}
use Rattle.st_world_quiet.proofs.Allowing.{allowed_tells, begun_abreast, calls_allow}
use Rattle.st_world_quiet.proofs.Running.{calls_joined}
use Rattle.st_end.specs.State.{new_end, parity}
use Rattle.st_world_quiet.specs.Calls.{allow_each, begin_each, lengths, other}

pub returns-clause-opening : goal.returns-clause-opening
returns-clause-opening g = λ role keys own peer config input money count may modest modest_money.
    begun_opening (parity role) (lengths input) money config (begin_each input money count (new_end role keys own peer config)) may (calls_begun role keys own peer config input money count modest modest_money)

pub returns-clause-abreast : goal.returns-clause-abreast
returns-clause-abreast g = λ role keys own peer config its_config input money count may modest modest_money.
    begun_abreast role (lengths input) money config (begin_each input money count (new_end role keys own peer config)) (allow_each money 0 65 (new_end (other role) keys peer own its_config)) may modest modest_money
    (calls_begun role keys own peer config input money count modest modest_money) (calls_allow (other role) keys peer own its_config money)

pub returns-clause-joined : goal.returns-clause-joined
returns-clause-joined g = λ role keys own peer config its_config input money count modest_money. (
  calls_joined role keys own peer config its_config input money count,
  allowed_tells (parity (other role)) money (allow_each money 0 65 (new_end (other role) keys peer own its_config)) modest_money (calls_allow (other role) keys peer own its_config money),
)
