use Rattle.std.proofs.Common.{◌+◌, ◌-◌, ◌++◌, ◌≤◌, List, length, drop}
use Rattle.st_unacked.specs.Chunks.{Block, IsCut}
use Rattle.st_unacked.proofs.chunk.cut.Given as goal

-- the chunks so far, and then any into which the rest is cut, are all bytes cut into chunks
abbrev pub invariant-loop-done : goal.invariant-loop-done
invariant-loop-done g l = record {
  within : l.done ≤ length l.bytes;
  cut : (tail : List Block) → IsCut (l.at + l.done) (drop l.done l.bytes) tail → IsCut l.at l.bytes (l.all.items ++ tail);
}

abbrev pub decreases-loop-done : goal.decreases-loop-done
decreases-loop-done g l = length l.bytes - l.done
