use Rattle.st_world_quiet.proofs.hop_laws.a_new_hop_is_calm.Goals as goal
use Rattle.st_world_quiet.proofs.HopOpening.{new_calm}

pub returns : goal.returns
returns g = λ destination own client server routes most left leads small within few. new_calm destination 0 own client server routes most left leads small within few
