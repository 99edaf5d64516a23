use Rattle.std.proofs.Common.{ℕ, ◌<◌}
use Rattle.sqlite_wal.specs.Recovery.{Passes}
use Rattle.sqlite_wal.specs.Reads.{IsClean, OnlyReads}
use Rattle.st_hop_books.proofs.damage.first_broken.Given as goal

abbrev pub invariant-loop-i : goal.invariant-loop-i
invariant-loop-i g l =
    (IsClean g.D.Disk l.log → (j : ℕ) → j < l.i → Passes l.page_size (g.D.Disk.seen l.fn.log) j)
    × OnlyReads g.D.Disk l.fn.log l.log
