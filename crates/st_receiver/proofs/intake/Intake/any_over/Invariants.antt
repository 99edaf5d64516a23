use Rattle.std.proofs.Common.{◌≡◌, ◌<◌, ℕ, get_or, false}
use Rattle.st_receiver.specs.Inside.{over_at}
use Rattle.st_receiver.proofs.intake.Intake.any_over.Given as goal

abbrev pub invariant-loop-k : goal.invariant-loop-k
invariant-loop-k g l = (j : ℕ) → j < l.k → over_at l.self.state j (get_or l.parts j 0) ≡ false
