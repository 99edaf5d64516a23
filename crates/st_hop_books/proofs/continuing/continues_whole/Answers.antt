use Rattle.std.proofs.Common.{refl}
use Rattle.st_hop_books.proofs.continuing.continues_whole.Goals as goal

pub returns : goal.returns
returns c yes' = record { counts = c.if-not-counts_on.ensures refl; lists = c.lists_same.ensures yes' }
