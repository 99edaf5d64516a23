use Rattle.std.proofs.Common.{arith}
use Rattle.std.proofs.lemmas.Grind.{common_steps}
use Rattle.ilpstream_ledger.proofs.owed.are_listed.Goals as goal

pub loop-at-init : goal.loop-at-init
loop-at-init g c = grind (arith, common_steps)

pub unreachable-requires : goal.unreachable-requires
unreachable-requires g c = grind (arith, common_steps)

pub unreachable-unreachable : goal.unreachable-unreachable
unreachable-unreachable g c = grind (arith, common_steps)

pub offset_bounds-amounts-at : goal.offset_bounds-amounts-at
offset_bounds-amounts-at g c = grind (arith, common_steps)

pub bounds-amounts-at : goal.bounds-amounts-at
bounds-amounts-at g c = grind (arith, common_steps)

pub returns-then-not-is_in-clause-yes : goal.returns-then-not-is_in-clause-yes
returns-then-not-is_in-clause-yes g c = grind (arith, common_steps)

pub returns-then-not-is_in-clause-no : goal.returns-then-not-is_in-clause-no
returns-then-not-is_in-clause-no g c = grind (arith, common_steps)

pub returns-clause-no : goal.returns-clause-no
returns-clause-no g c = grind (arith, common_steps)
