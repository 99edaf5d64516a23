use Rattle.std.proofs.Common.{◌≡◌, ◌*◌, ◌^◌, ◌-◌, ◌≤◌, take}
use Rattle.std.specs.Prelude.{sum}
use Rattle.st_receiver.proofs.decide.sum_of.Given as goal

abbrev pub invariant-loop-end : goal.invariant-loop-end
invariant-loop-end l = (l.total ≡ sum (take l.end-index l.ends)) × (l.total ≤ l.end-index * (2 ^ 64 - 1))
