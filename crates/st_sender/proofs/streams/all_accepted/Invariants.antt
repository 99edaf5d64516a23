use Rattle.std.proofs.Common.{◌≡◌, ◌≤◌, ◌+◌, ◌*◌, ◌^◌, drop}
use Rattle.st_sender.specs.Lanes.{outs}
use Rattle.st_sender.specs.Refusals.{all_accepted}
use Rattle.st_sender.proofs.streams.all_accepted.Given as goal

abbrev pub invariant-loop-place : goal.invariant-loop-place
invariant-loop-place g l = (l.total + all_accepted (outs (drop l.place-index l.streams.items)) ≡ all_accepted (outs l.streams.items)) × (l.total ≤ l.place-index * 2 ^ 64)
