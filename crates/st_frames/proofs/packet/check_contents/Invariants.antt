use Rattle.std.proofs.Common.{◌-◌}
use Rattle.st_frames.specs.Reading.{frames_at}
use Rattle.st_frames.proofs.FramesLemmas.{Checked}
use Rattle.st_frames.proofs.packet.check_contents.Given as goal

abbrev pub invariant-loop-index : goal.invariant-loop-index
invariant-loop-index l = Checked (frames_at l.count 0 l.bytes) (l.count - l.index) l.index l.rest
