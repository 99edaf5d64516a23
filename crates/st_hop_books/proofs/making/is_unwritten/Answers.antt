use Rattle.std.proofs.Common.{arith}
use Rattle.std.proofs.lemmas.Grind.{common_steps}
use Rattle.st_hop_books.proofs.making.is_unwritten.Goals as goal

pub len-requires : goal.len-requires
len-requires g c = grind (arith, common_steps)

pub returns-in_err-len-clause-found : goal.returns-in_err-len-clause-found
returns-in_err-len-clause-found g c = grind (arith, common_steps)

pub returns-in_err-len-clause-same : goal.returns-in_err-len-clause-same
returns-in_err-len-clause-same g c = grind (arith, common_steps)

pub returns-then-len-eq0-clause-found : goal.returns-then-len-eq0-clause-found
returns-then-len-eq0-clause-found g c = grind (arith, common_steps)

pub returns-then-len-eq0-clause-same : goal.returns-then-len-eq0-clause-same
returns-then-len-eq0-clause-same g c = grind (arith, common_steps)

pub returns-then-len-gt-EMPTY_LEN-clause-found : goal.returns-then-len-gt-EMPTY_LEN-clause-found
returns-then-len-gt-EMPTY_LEN-clause-found g c = grind (arith, common_steps)

pub returns-then-len-gt-EMPTY_LEN-clause-same : goal.returns-then-len-gt-EMPTY_LEN-clause-same
returns-then-len-gt-EMPTY_LEN-clause-same g c = grind (arith, common_steps)

pub slice_bounds-read_at-end : goal.slice_bounds-read_at-end
slice_bounds-read_at-end g c = grind (arith, common_steps)

pub read_at-requires : goal.read_at-requires
read_at-requires g c = grind (arith, common_steps)

pub returns-in_err-read_at-clause-found : goal.returns-in_err-read_at-clause-found
returns-in_err-read_at-clause-found g c = grind (arith, common_steps)

pub returns-in_err-read_at-clause-same : goal.returns-in_err-read_at-clause-same
returns-in_err-read_at-clause-same g c = grind (arith, common_steps)

pub bounds-first-0 : goal.bounds-first-0
bounds-first-0 g c = grind (arith, common_steps)

pub returns-clause-found : goal.returns-clause-found
returns-clause-found g c = grind (arith, common_steps)

pub returns-clause-same : goal.returns-clause-same
returns-clause-same g c = grind (arith, common_steps)
