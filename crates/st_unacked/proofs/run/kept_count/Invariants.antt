use Rattle.std.proofs.Common.{◌≡◌, ℕ, ◌-◌, ◌≤◌, drop}
use Rattle.st_unacked.specs.Runs.{status_at, kept_in}
use Rattle.st_unacked.proofs.run.kept_count.Given as goal

abbrev pub invariant-loop-run : goal.invariant-loop-run
invariant-loop-run g l = record {
  from : l.first ≤ l.start;
  counted : l.count ≡ kept_in l.runs.items l.first (l.start - l.first);
  rest : (q : ℕ) → l.start ≤ q → status_at l.runs.items q ≡ status_at (drop l.run-index l.runs.items) q;
}
