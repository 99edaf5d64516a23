use Rattle.std.proofs.Common.{◌≡◌, map}
use Rattle.st_frames.specs.Frames.{frame_of}
use Rattle.st_receiver.specs.Streams.{Receiving}
use Rattle.st_receiver.specs.Data.{frames_fault, after_frames}
use Rattle.st_receiver.specs.Inside.{Tracks}
use Rattle.st_receiver.proofs.intake.Intake.ends_after.Given as goal

abbrev pub invariant-loop-frame : goal.invariant-loop-frame
invariant-loop-frame g l = (cur : Receiving) × Tracks l.self.state cur l.ends × (frames_fault cur (map frame_of l.frames) ≡ frames_fault l.self.state (map frame_of l.fn.frames)) × (after_frames cur (map frame_of l.frames) ≡ after_frames l.self.state (map frame_of l.fn.frames))
