use Rattle.std.proofs.Common.{◌≡◌, ℕ, ◌+◌, ◌-◌, ◌<◌, ◌≤◌, length}
use Rattle.std.specs.Prelude.{slice_index}
use Rattle.st_unacked.specs.Chunks.{byte_in}
use Rattle.st_unacked.proofs.chunk.copy.Given as goal

abbrev pub invariant-loop-at : goal.invariant-loop-at
invariant-loop-at g l = record {
  from : l.from ≤ l.at;
  to : l.at ≤ l.to;
  len : length l.all.items ≡ l.at - l.from;
  bytes : (k : ℕ) → k < length l.all.items → slice_index l.all.items k ≡ byte_in l.chunks.items (l.from + k);
}

abbrev pub decreases-loop-at : goal.decreases-loop-at
decreases-loop-at g l = l.to - l.at
