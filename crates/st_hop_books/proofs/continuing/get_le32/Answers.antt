use Rattle.std.proofs.Common.{refl}
use Rattle.sqlite_wal.specs.Format.{le32}
use Rattle.st_hop_books.proofs.continuing.get_le32.Goals as goal

pub returns : goal.returns
unfolding le32
returns c = refl
