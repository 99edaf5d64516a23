use Rattle.ilpstream_ledger.proofs.Grown.{grown_claims, grown_dues}
use Rattle.ilpstream_ledger.proofs.laws.added_names_owe_nothing.Goals as goal

pub returns-clause-claims : goal.returns-clause-claims
returns-clause-claims c = grown_claims

pub returns-clause-dues : goal.returns-clause-dues
returns-clause-dues c = grown_dues
