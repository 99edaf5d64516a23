use Rattle.std.proofs.Common.{refl}
use Rattle.sqlite_wal.specs.Recovery.{frames_len}
use Rattle.st_hop_books.proofs.frames.frame_offset.Goals as goal

pub returns : goal.returns
unfolding frames_len
returns c = refl
