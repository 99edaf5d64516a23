use Rattle.std.proofs.Common.{arith}
use Rattle.std.proofs.lemmas.Grind.{common_steps}
use Rattle.ilpstream_ledger.proofs.placing.compare.Goals as goal

pub returns-then-not-are_listed-clause-refused : goal.returns-then-not-are_listed-clause-refused
returns-then-not-are_listed-clause-refused g c = grind (arith, common_steps)

pub returns-in_err-owed-clause-claims : goal.returns-in_err-owed-clause-claims
returns-in_err-owed-clause-claims g c = grind (arith, common_steps)

pub returns-in_err-owed-clause-dues : goal.returns-in_err-owed-clause-dues
returns-in_err-owed-clause-dues g c = grind (arith, common_steps)

pub returns-in_err-owed-clause-fit : goal.returns-in_err-owed-clause-fit
returns-in_err-owed-clause-fit g c = grind (arith, common_steps)

pub returns-in_err-owed-clause-listed : goal.returns-in_err-owed-clause-listed
returns-in_err-owed-clause-listed g c = grind (arith, common_steps)

pub returns-in_err-owed-clause-room : goal.returns-in_err-owed-clause-room
returns-in_err-owed-clause-room g c = grind (arith, common_steps)

pub returns-in_err-owed-clause-refused : goal.returns-in_err-owed-clause-refused
returns-in_err-owed-clause-refused g c = grind (arith, common_steps)

pub are_within-requires-clause-claims : goal.are_within-requires-clause-claims
are_within-requires-clause-claims g c = grind (arith, common_steps)

pub are_within-requires-clause-dues : goal.are_within-requires-clause-dues
are_within-requires-clause-dues g c = grind (arith, common_steps)

pub returns-then-not-are_within-clause-refused : goal.returns-then-not-are_within-clause-refused
returns-then-not-are_within-clause-refused g c = grind (arith, common_steps)

pub returns-clause-claims : goal.returns-clause-claims
returns-clause-claims g c = grind (arith, common_steps)

pub returns-clause-dues : goal.returns-clause-dues
returns-clause-dues g c = grind (arith, common_steps)

pub returns-clause-fit : goal.returns-clause-fit
returns-clause-fit g c = grind (arith, common_steps)

pub returns-clause-room : goal.returns-clause-room
returns-clause-room g c = grind (arith, common_steps)
