use Rattle.std.proofs.Common.{◌≡◌, ℕ, ◌<◌, length, get_or, None, false}
use Rattle.st_receiver.specs.Inside.{over_of}
use Rattle.st_receiver.proofs.closing.all_over.Given as goal

abbrev pub invariant-loop-k : goal.invariant-loop-k
invariant-loop-k g l = (length l.over ≡ 65) × ((j : ℕ) → j < l.k → get_or l.over j false ≡ over_of (get_or l.slots.items j None))
