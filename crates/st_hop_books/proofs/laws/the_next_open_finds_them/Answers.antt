use Rattle.st_hop_books.proofs.Restart.{next_finds}
use Rattle.st_hop_books.proofs.laws.the_next_open_finds_them.Goals as goal

pub returns : goal.returns
returns g c = next_finds
