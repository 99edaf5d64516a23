use Rattle.ilpstream_log.proofs.Short.{short}
use Rattle.ilpstream_log.proofs.laws.texts_of_peers_are_short.Goals as goal

pub returns : goal.returns
returns c = short
