use Rattle.ilpstream_ledger.proofs.Histories.{entered_named}
use Rattle.ilpstream_ledger.proofs.laws.entries_are_by_name.Goals as goal

pub returns : goal.returns
returns c = entered_named
