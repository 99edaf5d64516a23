use Rattle.st_world_parts.proofs.AllFrom.{no_ledger}
use Rattle.st_world_parts.proofs.ledger.StreamLogs.new.Goals as goal

pub returns : goal.returns
returns g c = no_ledger _ 256 c.in_ok-no_ledgers.ensures
