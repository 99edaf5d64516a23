use Rattle.std.proofs.Common.{arith}
use Rattle.std.proofs.lemmas.Grind.{common_steps}
use Rattle.st_hop_books.proofs.making.is_unmade.Goals as goal

pub is_begun-requires : goal.is_begun-requires
is_begun-requires g c = grind (arith, common_steps)

pub returns-in_err-is_begun-clause-unmade : goal.returns-in_err-is_begun-clause-unmade
returns-in_err-is_begun-clause-unmade g c = grind (arith, common_steps)

pub returns-in_err-is_begun-clause-log : goal.returns-in_err-is_begun-clause-log
returns-in_err-is_begun-clause-log g c = grind (arith, common_steps)

pub returns-in_err-is_begun-clause-db : goal.returns-in_err-is_begun-clause-db
returns-in_err-is_begun-clause-db g c = grind (arith, common_steps)

pub len-requires : goal.len-requires
len-requires g c = grind (arith, common_steps)

pub returns-in_err-len-clause-unmade : goal.returns-in_err-len-clause-unmade
returns-in_err-len-clause-unmade g c = grind (arith, common_steps)

pub returns-in_err-len-clause-log : goal.returns-in_err-len-clause-log
returns-in_err-len-clause-log g c = grind (arith, common_steps)

pub returns-in_err-len-clause-db : goal.returns-in_err-len-clause-db
returns-in_err-len-clause-db g c = grind (arith, common_steps)

pub returns-then-not-nothing-clause-unmade : goal.returns-then-not-nothing-clause-unmade
returns-then-not-nothing-clause-unmade g c = grind (arith, common_steps)

pub returns-then-not-nothing-clause-log : goal.returns-then-not-nothing-clause-log
returns-then-not-nothing-clause-log g c = grind (arith, common_steps)

pub returns-then-not-nothing-clause-db : goal.returns-then-not-nothing-clause-db
returns-then-not-nothing-clause-db g c = grind (arith, common_steps)

pub returns-in_ok-len-clause-unmade : goal.returns-in_ok-len-clause-unmade
returns-in_ok-len-clause-unmade g c = grind (arith, common_steps)

pub returns-in_ok-len-clause-log : goal.returns-in_ok-len-clause-log
returns-in_ok-len-clause-log g c = grind (arith, common_steps)

pub returns-in_ok-len-clause-db : goal.returns-in_ok-len-clause-db
returns-in_ok-len-clause-db g c = grind (arith, common_steps)

pub len-requires-2 : goal.len-requires-2
len-requires-2 g c = grind (arith, common_steps)

pub returns-in_err-db_len-clause-unmade : goal.returns-in_err-db_len-clause-unmade
returns-in_err-db_len-clause-unmade g c = grind (arith, common_steps)

pub returns-in_err-db_len-clause-log : goal.returns-in_err-db_len-clause-log
returns-in_err-db_len-clause-log g c = grind (arith, common_steps)

pub returns-in_err-db_len-clause-db : goal.returns-in_err-db_len-clause-db
returns-in_err-db_len-clause-db g c = grind (arith, common_steps)

pub len-requires-3 : goal.len-requires-3
len-requires-3 g c = grind (arith, common_steps)

pub returns-in_err-log_len-clause-unmade : goal.returns-in_err-log_len-clause-unmade
returns-in_err-log_len-clause-unmade g c = grind (arith, common_steps)

pub returns-in_err-log_len-clause-log : goal.returns-in_err-log_len-clause-log
returns-in_err-log_len-clause-log g c = grind (arith, common_steps)

pub returns-in_err-log_len-clause-db : goal.returns-in_err-log_len-clause-db
returns-in_err-log_len-clause-db g c = grind (arith, common_steps)

pub returns-then-db_len-gt1-clause-unmade : goal.returns-then-db_len-gt1-clause-unmade
returns-then-db_len-gt1-clause-unmade g c = grind (arith, common_steps)

pub returns-then-db_len-gt1-clause-log : goal.returns-then-db_len-gt1-clause-log
returns-then-db_len-gt1-clause-log g c = grind (arith, common_steps)

pub returns-then-db_len-gt1-clause-db : goal.returns-then-db_len-gt1-clause-db
returns-then-db_len-gt1-clause-db g c = grind (arith, common_steps)

pub is_unwritten-requires : goal.is_unwritten-requires
is_unwritten-requires g c = grind (arith, common_steps)

pub returns-clause-unmade : goal.returns-clause-unmade
returns-clause-unmade g c = grind (arith, common_steps)

pub returns-clause-log : goal.returns-clause-log
returns-clause-log g c = grind (arith, common_steps)

pub returns-clause-db : goal.returns-clause-db
returns-clause-db g c = grind (arith, common_steps)
