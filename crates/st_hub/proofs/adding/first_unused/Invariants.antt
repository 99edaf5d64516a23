use Rattle.std.proofs.Common.{◌≡◌, ◌+◌, ◌*◌, ◌<◌, ℕ, true, map}
use Rattle.st_hub.specs.Flow.{inlet_at}
use Rattle.st_hub.specs.Inside.{inlet_of}
use Rattle.st_hub.proofs.adding.first_unused.Given as goal

abbrev pub invariant-loop-writer : goal.invariant-loop-writer
invariant-loop-writer g l = (j : ℕ) → 0 < j → j < l.writer → (inlet_at (map inlet_of l.writes.items) (8 * l.place + j)).out ≡ true
