use Rattle.std.proofs.Common.{◌≡◌, map}
use Rattle.st_frames.specs.Frames.{frame_of}
use Rattle.st_sender.specs.Answering.{after_all_told}
use Rattle.st_end.proofs.back.raise_all.Given as goal

abbrev pub invariant-loop-frame : goal.invariant-loop-frame
invariant-loop-frame g l = after_all_told l.outbox (map frame_of l.frames) ≡ after_all_told l.fn.outbox (map frame_of l.fn.frames)
