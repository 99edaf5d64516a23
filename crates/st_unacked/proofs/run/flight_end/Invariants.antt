use Rattle.std.proofs.Common.{◌≡◌, ℕ, ◌-◌, ◌<◌, ◌≤◌, true, drop}
use Rattle.st_unacked.specs.Runs.{status_at, flight_at}
use Rattle.st_unacked.specs.Sent.{is_by}
use Rattle.st_unacked.proofs.run.flight_end.Given as goal

abbrev pub invariant-loop-run : goal.invariant-loop-run
invariant-loop-run g l = record {
  from : l.first ≤ l.start;
  past : (q : ℕ) → l.first ≤ q → q < l.start → is_by l.sequence (flight_at l.runs.items q) ≡ true → q < l.end;
  last : 0 < l.end → (l.first < l.end) × (is_by l.sequence (flight_at l.runs.items (l.end - 1)) ≡ true);
  rest : (q : ℕ) → l.start ≤ q → status_at l.runs.items q ≡ status_at (drop l.run-index l.runs.items) q;
}
