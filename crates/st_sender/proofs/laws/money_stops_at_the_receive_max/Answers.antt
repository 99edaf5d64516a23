use Rattle.st_sender.proofs.ReceiveMax.{stopped_at_max}
use Rattle.st_sender.proofs.laws.money_stops_at_the_receive_max.Goals as goal

pub returns : goal.returns
returns c = stopped_at_max
