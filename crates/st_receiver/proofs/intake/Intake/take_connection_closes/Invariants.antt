use Rattle.std.proofs.Common.{◌≡◌, map}
use Rattle.st_frames.specs.Frames.{frame_of}
use Rattle.st_receiver.specs.Closes.{after_connection_closes}
use Rattle.st_receiver.proofs.intake.Intake.take_connection_closes.Given as goal

abbrev pub invariant-loop-frame : goal.invariant-loop-frame
invariant-loop-frame g l = record {
  same : after_connection_closes l.self.state (map frame_of l.frames) ≡ after_connection_closes l.fn.self.state (map frame_of l.fn.frames);
  room : l.self.room ≡ l.fn.self.room;
}
