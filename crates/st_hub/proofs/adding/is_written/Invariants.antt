use Rattle.std.proofs.Common.{◌≡◌, ◌+◌, ◌*◌, ◌<◌, ℕ, false, map}
use Rattle.st_hub.specs.Flow.{inlet_at}
use Rattle.st_hub.specs.Inside.{inlet_of}
use Rattle.st_hub.proofs.adding.is_written.Given as goal

abbrev pub invariant-loop-writer : goal.invariant-loop-writer
invariant-loop-writer g l = (j : ℕ) → j < l.writer → (inlet_at (map inlet_of l.writes.items) (8 * l.place + j)).out ≡ false
