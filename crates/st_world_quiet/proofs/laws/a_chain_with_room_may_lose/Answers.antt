use Rattle.st_world_quiet.proofs.laws.a_chain_with_room_may_lose.Goals as goal
use Rattle.st_world_quiet.proofs.Room.{may_lose}

pub returns : goal.returns
returns g = λ accounts config xs ms rs fates room. may_lose accounts config xs ms rs fates room
