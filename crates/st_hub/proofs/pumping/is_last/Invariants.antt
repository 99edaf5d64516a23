use Rattle.std.proofs.Common.{◌≡◌, ◌≢◌, ◌+◌, ◌*◌, ◌<◌, ℕ, false, map}
use Rattle.st_hub.specs.Flow.{inlet_at, is_writing}
use Rattle.st_hub.specs.Inside.{inlet_of}
use Rattle.st_hub.proofs.pumping.is_last.Given as goal

abbrev pub invariant-loop-other : goal.invariant-loop-other
invariant-loop-other g l = (i : ℕ) → i < l.other → i ≢ l.writer → is_writing (inlet_at (map inlet_of l.writes.items) (8 * l.place + i)) ≡ false
