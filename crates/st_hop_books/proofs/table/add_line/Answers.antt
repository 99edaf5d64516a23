use Rattle.st_hop_books.proofs.Steps.{clean_open, keeps_written}
use Rattle.st_hop_books.proofs.table.add_line.Goals as goal

pub returns-clause-keeps : goal.returns-clause-keeps
returns-clause-keeps g c = keeps_written _ _ c.in_ok-put.ensures.schema c.in_ok-put.ensures.frame (clean_open (g.S.Store.view c.put.new.self) (g.met.S.Store.shut_if_dirty c.put.new.self))
