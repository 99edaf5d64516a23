use Rattle.std.proofs.Common.{◌≡◌, ℕ, ◌<◌, length, get_or, None}
use Rattle.st_receiver.specs.Streams.{received_of}
use Rattle.st_receiver.proofs.decide.all_received.Given as goal

abbrev pub invariant-loop-k : goal.invariant-loop-k
invariant-loop-k g l = (length l.ends ≡ 65) × ((j : ℕ) → j < l.k → get_or l.ends j 0 ≡ received_of (get_or l.slots.items j None))
