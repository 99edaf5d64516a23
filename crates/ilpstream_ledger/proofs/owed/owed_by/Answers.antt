use Rattle.std.proofs.Common.{arith}
use Rattle.std.proofs.lemmas.Grind.{common_steps}
use Rattle.ilpstream_ledger.proofs.owed.owed_by.Goals as goal

pub loop-name-init : goal.loop-name-init
loop-name-init g c = grind (arith, common_steps)

pub offset_bounds-table-name-index : goal.offset_bounds-table-name-index
offset_bounds-table-name-index g c = grind (arith, common_steps)

pub returns-in_err-push-clause-claims : goal.returns-in_err-push-clause-claims
returns-in_err-push-clause-claims g c = grind (arith, common_steps)

pub returns-in_err-push-clause-dues : goal.returns-in_err-push-clause-dues
returns-in_err-push-clause-dues g c = grind (arith, common_steps)

pub returns-in_err-push-2-clause-claims : goal.returns-in_err-push-2-clause-claims
returns-in_err-push-2-clause-claims g c = grind (arith, common_steps)

pub returns-in_err-push-2-clause-dues : goal.returns-in_err-push-2-clause-dues
returns-in_err-push-2-clause-dues g c = grind (arith, common_steps)

pub loop-name-preserved : goal.loop-name-preserved
loop-name-preserved g c = grind (arith, common_steps)

pub returns-clause-claims : goal.returns-clause-claims
returns-clause-claims g c = grind (arith, common_steps)

pub returns-clause-dues : goal.returns-clause-dues
returns-clause-dues g c = grind (arith, common_steps)
