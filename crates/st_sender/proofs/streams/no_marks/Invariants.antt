use Rattle.std.proofs.Common.{◌≡◌, replicate, None}
use Rattle.st_sender.proofs.streams.no_marks.Given as goal

abbrev pub invariant-loop-number : goal.invariant-loop-number
invariant-loop-number g l = l.slots.items ≡ replicate l._number None
