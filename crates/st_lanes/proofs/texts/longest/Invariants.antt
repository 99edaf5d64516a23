use Rattle.std.proofs.Common.{◌≡◌, ℕ, ◌%◌, ◌<◌, ◌≤◌, map}
use Rattle.st_lanes.specs.Lanes.{text}
use Rattle.st_lanes.specs.Padded.{count_behind}
use Rattle.st_lanes.proofs.texts.longest.Given as goal

abbrev pub invariant-lanes : goal.invariant-lanes
invariant-lanes l = (n k : ℕ) → n % 64 ≡ 0 → k < l.at → count_behind n (text (map (λ t. t.now) l.texts) k) ≤ l.count
