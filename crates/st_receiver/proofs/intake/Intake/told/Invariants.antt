use Rattle.std.proofs.Common.{◌≡◌, map, ◌∷◌}
use Rattle.std.specs.List.{flat_map, range_with_len}
use Rattle.st_frames.specs.Frames.{LimitFrame, ConnectionMaxData}
use Rattle.st_frames.specs.Seen.{seen}
use Rattle.st_receiver.specs.Inside.{told_at}
use Rattle.st_receiver.proofs.intake.Intake.told.Given as goal

abbrev pub invariant-loop-k : goal.invariant-loop-k
invariant-loop-k g l = map seen l.frames.items ≡ LimitFrame (ConnectionMaxData l.limit) ∷ flat_map (told_at l.self.state l.named l.totals) (range_with_len 1 l.k)
