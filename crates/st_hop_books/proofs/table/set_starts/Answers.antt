use Rattle.st_hop_books.proofs.Steps.{keeps_framed, sets_only}
use Rattle.st_hop_books.proofs.table.set_starts.Goals as goal

pub returns-clause-keeps : goal.returns-clause-keeps
returns-clause-keeps g c clean = keeps_framed _ _ (sets_only _ _ _ _ (c.in_ok-set_version.ensures.ok clean))
