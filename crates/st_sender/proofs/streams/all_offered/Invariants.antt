use Rattle.std.proofs.Common.{◌≡◌, ◌≤◌, ◌+◌, ◌*◌, ◌^◌, drop}
use Rattle.st_sender.specs.Lanes.{outs}
use Rattle.st_sender.specs.Refusals.{all_offered}
use Rattle.st_sender.proofs.streams.all_offered.Given as goal

abbrev pub invariant-loop-place : goal.invariant-loop-place
invariant-loop-place g l = (l.total + all_offered (outs (drop l.place-index l.streams.items)) ≡ all_offered (outs l.streams.items)) × (l.total ≤ l.place-index * 2 ^ 64)
