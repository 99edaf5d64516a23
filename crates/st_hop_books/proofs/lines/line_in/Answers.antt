use Rattle.std.proofs.Common.{arith}
use Rattle.std.proofs.lemmas.Grind.{common_steps}
use Rattle.st_hop_books.proofs.lines.line_in.Goals as goal

pub returns-in_err-id : goal.returns-in_err-id
returns-in_err-id c = grind (arith, common_steps)

pub returns-in_err-name : goal.returns-in_err-name
returns-in_err-name c = grind (arith, common_steps)

pub returns-in_err-claims : goal.returns-in_err-claims
returns-in_err-claims c = grind (arith, common_steps)

pub returns-in_err-dues : goal.returns-in_err-dues
returns-in_err-dues c = grind (arith, common_steps)

pub returns : goal.returns
returns c = grind (arith, common_steps)
