use Rattle.st_sender.specs.ControlFrames.{NoneHeld}
use Rattle.st_sender.proofs.blocked.is_any_held.Given as goal

abbrev pub invariant-loop-number : goal.invariant-loop-number
invariant-loop-number g l = NoneHeld l.streams l.flights l.spare l.number
