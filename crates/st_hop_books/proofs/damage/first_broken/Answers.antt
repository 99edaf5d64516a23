use Rattle.std.proofs.Common.{arith}
use Rattle.std.proofs.lemmas.Grind.{common_steps}
use Rattle.st_hop_books.proofs.damage.first_broken.Goals as goal

pub loop-i-init : goal.loop-i-init
loop-i-init g c = grind (arith, common_steps)

pub look_at-requires-clause-usable : goal.look_at-requires-clause-usable
look_at-requires-clause-usable g c = grind (arith, common_steps)

pub look_at-requires-clause-len : goal.look_at-requires-clause-len
look_at-requires-clause-len g c = grind (arith, common_steps)

pub look_at-requires-clause-size : goal.look_at-requires-clause-size
look_at-requires-clause-size g c = grind (arith, common_steps)

pub look_at-requires-clause-few : goal.look_at-requires-clause-few
look_at-requires-clause-few g c = grind (arith, common_steps)

pub look_at-requires-clause-head : goal.look_at-requires-clause-head
look_at-requires-clause-head g c = grind (arith, common_steps)

pub look_at-requires-clause-buf : goal.look_at-requires-clause-buf
look_at-requires-clause-buf g c = grind (arith, common_steps)

pub returns-in_err-look_at-clause-first : goal.returns-in_err-look_at-clause-first
returns-in_err-look_at-clause-first g c = grind (arith, common_steps)

pub returns-in_err-look_at-clause-few : goal.returns-in_err-look_at-clause-few
returns-in_err-look_at-clause-few g c = grind (arith, common_steps)

pub returns-in_err-look_at-clause-same : goal.returns-in_err-look_at-clause-same
returns-in_err-look_at-clause-same g c = grind (arith, common_steps)

pub returns-in-Absent-clause-first : goal.returns-in-Absent-clause-first
returns-in-Absent-clause-first g c = grind (arith, common_steps)

pub returns-in-Absent-clause-few : goal.returns-in-Absent-clause-few
returns-in-Absent-clause-few g c = grind (arith, common_steps)

pub returns-in-Absent-clause-same : goal.returns-in-Absent-clause-same
returns-in-Absent-clause-same g c = grind (arith, common_steps)

pub loop-i-preserved : goal.loop-i-preserved
loop-i-preserved g c = grind (arith, common_steps)

pub returns-clause-same : goal.returns-clause-same
returns-clause-same g c = grind (arith, common_steps)
