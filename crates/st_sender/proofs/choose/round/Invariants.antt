use Rattle.std.proofs.Common.{◌≡◌}
use Rattle.st_sender.specs.Allowed.{AreServed, left_beside}
use Rattle.st_sender.proofs.choose.round.Given as goal

abbrev pub invariant-loop-place : goal.invariant-loop-place
invariant-loop-place g l = AreServed l.streams l.flights l.fn.bounds l.fn.turn l.place l.frames.items × (l.left ≡ left_beside l.streams l.flights l.fn.bounds l.frames.items)
