use Rattle.std.proofs.Common.{ℕ, ◌<◌, ◌≤◌}
use Rattle.sqlite_wal.specs.Reads.{IsClean, OnlyReads}
use Rattle.st_hop_books.specs.Damage.{IsWanted}
use Rattle.st_hop_books.proofs.damage.next_frame.Given as goal

abbrev pub invariant-loop-i : goal.invariant-loop-i
invariant-loop-i g l =
    (IsClean g.D.Disk l.log → (j : ℕ) → l.from ≤ j → j < l.i → ¬ IsWanted l.ends l.page_size (g.D.Disk.seen l.fn.log) j)
    × (l.from ≤ l.i)
    × OnlyReads g.D.Disk l.fn.log l.log
