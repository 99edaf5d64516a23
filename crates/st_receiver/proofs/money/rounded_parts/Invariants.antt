use Rattle.std.proofs.Common.{◌≡◌, ℕ, ◌<◌, ◌*◌, ◌/◌, length, get_or}
use Rattle.st_receiver.proofs.money.rounded_parts.Given as goal

abbrev pub invariant-loop-k : goal.invariant-loop-k
invariant-loop-k l = (length l.parts ≡ 65) × ((j : ℕ) → j < l.k → get_or l.parts j 0 ≡ l.amount * get_or l.shares j 0 / l.all)
