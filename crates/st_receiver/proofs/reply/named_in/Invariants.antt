use Rattle.std.proofs.Common.{◌≡◌, ◌||◌, ◌<◌, ℕ, map, false, get_or}
use Rattle.std.specs.List.{list_any}
use Rattle.st_frames.specs.Frames.{frame_of}
use Rattle.st_frames.specs.Told.{names}
use Rattle.st_receiver.proofs.reply.named_in.Given as goal

abbrev pub invariant-loop-frame : goal.invariant-loop-frame
invariant-loop-frame l = (k : ℕ) → k < 65 → (get_or l.named k false || list_any (names k) (map frame_of l.frames)) ≡ list_any (names k) (map frame_of l.fn.frames)
