use Rattle.std.proofs.Common.{inr}
use Rattle.st_hop_books.proofs.continuing.refuse_others.Goals as goal

pub returns-clause-continued : goal.returns-clause-continued
returns-clause-continued g c clean = inr (c.in_ok-log_continues.ensures.found clean c.if-not-branch.false)
