use Rattle.std.proofs.Common.{◌≡◌, ℕ, ◌-◌, ◌<◌, ◌≤◌, true, drop}
use Rattle.st_unacked.specs.Runs.{status_at, is_due}
use Rattle.st_unacked.proofs.run.past_due.Given as goal

abbrev pub invariant-loop-run : goal.invariant-loop-run
invariant-loop-run g l = record {
  from : l.first ≤ l.start;
  past : (q : ℕ) → l.first ≤ q → q < l.start → is_due (status_at l.runs.items q) ≡ true → q < l.end;
  last : 0 < l.end → (l.first < l.end) × (is_due (status_at l.runs.items (l.end - 1)) ≡ true);
  rest : (q : ℕ) → l.start ≤ q → status_at l.runs.items q ≡ status_at (drop l.run-index l.runs.items) q;
}
