use Rattle.std.proofs.Common.{◌-◌}
use Rattle.st_frames.specs.Reading.{raws_at}
use Rattle.st_frames.proofs.FramesLemmas.{Follows}
use Rattle.st_frames.proofs.skeleton.check_skeleton.Given as goal

abbrev pub invariant-loop : goal.invariant-loop
invariant-loop l = Follows (raws_at l.count l.bytes) (raws_at (l.count - l.counter) l.rest)
