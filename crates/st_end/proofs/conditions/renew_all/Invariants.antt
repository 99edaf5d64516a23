use Rattle.std.proofs.Common.{◌≡◌, ◌++◌, map, take, drop}
use Rattle.st_end.specs.Inside.{with_value}
use Rattle.st_end.proofs.conditions.renew_all.Given as goal

-- the entries before this one are changed
abbrev pub invariant-loop-i : goal.invariant-loop-i
invariant-loop-i g l = l.kept.items ≡ map (with_value l.sequence l.condition) (take l.i l.fn.kept.items) ++ drop l.i l.fn.kept.items
