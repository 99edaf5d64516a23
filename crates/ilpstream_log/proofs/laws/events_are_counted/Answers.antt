use Rattle.ilpstream_log.proofs.Counts.{counted}
use Rattle.ilpstream_log.proofs.laws.events_are_counted.Goals as goal

pub returns : goal.returns
returns c = counted
