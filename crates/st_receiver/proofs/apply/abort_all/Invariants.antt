use Rattle.std.proofs.Common.{◌≡◌, map}
use Rattle.st_receiver.specs.Closes.{with_abort}
use Rattle.st_receiver.specs.Inside.{mix}
use Rattle.st_receiver.proofs.apply.abort_all.Given as goal

abbrev pub invariant-loop-k : goal.invariant-loop-k
invariant-loop-k g l = l.slots.items ≡ mix l.k (map (with_abort l.code) l.fn.slots.items) l.fn.slots.items
