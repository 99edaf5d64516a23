use Rattle.std.proofs.Common.{◌≡◌, ◌+◌, ℕ, ◌<◌, length, get_or}
use Rattle.st_receiver.specs.Streams.{incoming_at}
use Rattle.st_receiver.proofs.intake.Intake.totals_with.Given as goal

abbrev pub invariant-loop-k : goal.invariant-loop-k
invariant-loop-k g l = (length l.totals ≡ 65) × ((j : ℕ) → j < l.k → get_or l.totals j 0 ≡ (incoming_at l.self.state j).credited + get_or l.parts j 0)
