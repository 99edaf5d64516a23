use Rattle.std.proofs.Common.{◌≡◌, ◌≤◌, ◌+◌, ◌-◌, ◌*◌, ◌^◌}
use Rattle.st_sender.specs.Allowed.{lane_ends}
use Rattle.st_sender.proofs.choose.ends.Given as goal

abbrev pub invariant-loop-number : goal.invariant-loop-number
invariant-loop-number g l = (l.total + lane_ends l.streams l.flights l.number (65 - l.number) ≡ lane_ends l.streams l.flights 0 65) × (l.total ≤ l.number * 2 ^ 65)
