use Rattle.std.proofs.Common.{◌≡◌}
use Rattle.st_sender.specs.Allowed.{AreClosings, costs, less}
use Rattle.st_sender.proofs.choose.closings.Given as goal

abbrev pub invariant-loop-number : goal.invariant-loop-number
invariant-loop-number g l = AreClosings l.streams l.flights l.fn.bounds l.number l.frames.items × (l.left ≡ less l.fn.bounds (costs l.frames.items))
