use Rattle.std.proofs.Common.{◌≡◌, ℕ, ◌<◌, length, get_or, None}
use Rattle.st_receiver.specs.Streams.{read_of}
use Rattle.st_receiver.proofs.decide.reads_of.Given as goal

abbrev pub invariant-loop-k : goal.invariant-loop-k
invariant-loop-k g l = (length l.reads ≡ 65) × ((j : ℕ) → j < l.k → get_or l.reads j 0 ≡ read_of (get_or l.slots.items j None))
