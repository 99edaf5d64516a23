use Rattle.st_hop_books.proofs.making.is_blank.Goals as goal

pub returns-in-Ok-clause-found : goal.returns-in-Ok-clause-found
returns-in-Ok-clause-found g c clean = rw c.requires.size at (c.in-Ok.ensures.ok clean)
