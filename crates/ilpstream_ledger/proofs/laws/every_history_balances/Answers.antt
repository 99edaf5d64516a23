use Rattle.std.proofs.Common.{arith}
use Rattle.ilpstream_ledger.specs.Lives.{none}
use Rattle.ilpstream_ledger.proofs.Histories.{all_claims, all_dues}
use Rattle.ilpstream_ledger.proofs.laws.every_history_balances.Goals as goal

pub returns-clause-claims : goal.returns-clause-claims
returns-clause-claims c = λ name cs fits. let e = all_claims none name cs fits in omega (arith, e)

pub returns-clause-dues : goal.returns-clause-dues
returns-clause-dues c = λ name cs fits. let e = all_dues none name cs fits in omega (arith, e)
