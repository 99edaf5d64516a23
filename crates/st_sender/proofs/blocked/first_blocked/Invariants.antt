use Rattle.st_sender.specs.ControlFrames.{NoneBlocked}
use Rattle.st_sender.proofs.blocked.first_blocked.Given as goal

abbrev pub invariant-loop-number : goal.invariant-loop-number
invariant-loop-number g l = NoneBlocked l.streams l.flights l.least l.bounds l.number
