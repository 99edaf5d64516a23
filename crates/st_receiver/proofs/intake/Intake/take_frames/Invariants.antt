use Rattle.std.proofs.Common.{◌≡◌, map, None}
use Rattle.st_frames.specs.Frames.{frame_of}
use Rattle.st_receiver.specs.Data.{after_frames, frames_fault}
use Rattle.st_receiver.specs.Standing.{AllReady, Keeps}
use Rattle.st_receiver.proofs.intake.Intake.take_frames.Given as goal

abbrev pub invariant-loop-frame : goal.invariant-loop-frame
invariant-loop-frame g l = record {
  same : after_frames l.self.state (map frame_of l.frames) ≡ after_frames l.fn.self.state (map frame_of l.fn.frames);
  lawful : frames_fault l.self.state (map frame_of l.frames) ≡ None;
  ready : AllReady l.self (map frame_of l.frames);
  keeps : Keeps l.fn.self l.self;
}
