use Rattle.std.proofs.Common.{◌≡◌, map}
use Rattle.st_frames.specs.Frames.{frame_of}
use Rattle.st_receiver.specs.Closes.{after_closes}
use Rattle.st_receiver.specs.Standing.{AllReady, Keeps}
use Rattle.st_receiver.proofs.intake.Intake.take_closes.Given as goal

abbrev pub invariant-loop-frame : goal.invariant-loop-frame
invariant-loop-frame g l = record {
  same : after_closes l.self.state (map frame_of l.frames) ≡ after_closes l.fn.self.state (map frame_of l.fn.frames);
  ready : AllReady l.self (map frame_of l.frames);
  keeps : Keeps l.fn.self l.self;
}
