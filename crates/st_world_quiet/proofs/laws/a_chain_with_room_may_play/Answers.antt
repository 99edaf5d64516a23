use Rattle.st_world_quiet.proofs.laws.a_chain_with_room_may_play.Goals as goal
use Rattle.st_world_quiet.proofs.Room.{may_play}

pub returns : goal.returns
returns g = λ accounts config xs ms may_send bytes money few all packets. may_play accounts config xs ms may_send bytes money few all packets
