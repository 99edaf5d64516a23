use Rattle.std.proofs.Common.{◌≡◌, drop}
use Rattle.std.specs.Ordering.{nat_cmp}
use Rattle.std.specs.FinMap.{get, find}
use Rattle.st_end.proofs.conditions.Conditions.get.Given as goal

abbrev pub invariant-loop-by : goal.invariant-loop-by
invariant-loop-by g l = get l.self l.sequence ≡ find nat_cmp l.sequence (drop l.by-index l.by-items)
