use Rattle.std.proofs.Common.{◌≡◌, ℕ, ◌<◌, length, get_or, false, cond}
use Rattle.st_receiver.proofs.closing.Tally.aborted.Given as goal

abbrev pub invariant-loop-k : goal.invariant-loop-k
invariant-loop-k l = (length l.reads ≡ 65) × ((j : ℕ) → j < l.k → get_or l.reads j 0 ≡ cond (get_or l.self.over j false) (get_or l.self.reads j 0) (get_or l.self.ends j 0))
