use Rattle.std.proofs.Common.{◌≡◌, drop}
use Rattle.st_sender.specs.Allowed.{turn_of}
use Rattle.st_sender.proofs.choose.turned.Given as goal

abbrev pub invariant-loop-frame : goal.invariant-loop-frame
invariant-loop-frame l = turn_of l.last (drop l.frame-index l.frames) ≡ turn_of l.turn l.frames
