use Rattle.std.proofs.Common.{◌-◌, ◌<◌, ◌≤◌, ℕ, length}
use Rattle.st_receiver.specs.Sequences.{last_at}
use Rattle.st_receiver.proofs.sequences.runs_before.Given as goal

abbrev pub invariant-loop-low : goal.invariant-loop-low
invariant-loop-low g l = record {
  order : l.low ≤ l.high;
  within : l.high ≤ length l.runs.items;
  before : (k : ℕ) → k < l.low → last_at l.runs.items k < l.sequence;
  behind : (k : ℕ) → l.high ≤ k → k < length l.runs.items → l.sequence ≤ last_at l.runs.items k;
}

abbrev pub decreases-loop-low : goal.decreases-loop-low
decreases-loop-low g l = l.high - l.low
