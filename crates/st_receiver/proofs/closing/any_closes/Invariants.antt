use Rattle.std.proofs.Common.{◌≡◌, map}
use Rattle.std.specs.List.{list_any}
use Rattle.st_frames.specs.Frames.{frame_of}
use Rattle.st_receiver.specs.Inside.{closes_connection}
use Rattle.st_receiver.proofs.closing.any_closes.Given as goal

abbrev pub invariant-loop-frame : goal.invariant-loop-frame
invariant-loop-frame l = list_any closes_connection (map frame_of l.frames) ≡ list_any closes_connection (map frame_of l.fn.frames)
