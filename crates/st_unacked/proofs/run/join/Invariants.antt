use Rattle.std.proofs.Common.{◌≡◌, ℕ, ◌≤◌, length}
use Rattle.st_unacked.specs.Runs.{Rise}
use Rattle.st_unacked.proofs.Neighbours.{Joining}
use Rattle.st_unacked.proofs.run.join.Given as goal

abbrev pub invariant-loop-i : goal.invariant-loop-i
invariant-loop-i g l = record {
  count : l.count ≤ l.i;
  len : length l.runs.items ≡ length l.fn.runs.items;
  joining : (first : ℕ) → Rise first l.fn.runs.items → Joining first l.fn.runs.items l.runs.items l.count l.i;
}
