use Rattle.std.proofs.Common.{◌≡◌, ℕ, ◌<◌, length, get_or, None}
use Rattle.st_receiver.specs.Streams.{credited_of}
use Rattle.st_receiver.proofs.money.all_credited.Given as goal

abbrev pub invariant-loop-k : goal.invariant-loop-k
invariant-loop-k g l = (length l.totals ≡ 65) × ((j : ℕ) → j < l.k → get_or l.totals j 0 ≡ credited_of (get_or l.slots.items j None))
