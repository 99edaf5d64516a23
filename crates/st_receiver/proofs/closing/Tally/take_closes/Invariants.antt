use Rattle.std.proofs.Common.{◌≡◌, map}
use Rattle.st_frames.specs.Frames.{frame_of}
use Rattle.st_receiver.specs.Streams.{Receiving}
use Rattle.st_receiver.specs.Closes.{after_closes}
use Rattle.st_receiver.specs.Inside.{Counts}
use Rattle.st_receiver.proofs.closing.Tally.take_closes.Given as goal

abbrev pub invariant-loop-frame : goal.invariant-loop-frame
invariant-loop-frame l = (r : Receiving) → Counts r l.fn.self → (cur : Receiving) × Counts cur l.self × (after_closes cur (map frame_of l.frames) ≡ after_closes r (map frame_of l.fn.frames))
