use Rattle.std.proofs.Common.{◌≡◌, List, ℕ, map}
use Rattle.st_frames.specs.Frames.{frame_of}
use Rattle.st_end.specs.Receiving.{new_peer}
use Rattle.st_end.specs.Seen.{address_or}
use Rattle.st_end.proofs.effect.last_address.Given as goal

abbrev pub invariant-loop-frame : goal.invariant-loop-frame
invariant-loop-frame l = (peer : List ℕ) → new_peer peer (map frame_of l.fn.frames) ≡ new_peer (address_or peer l.last) (map frame_of l.frames)
