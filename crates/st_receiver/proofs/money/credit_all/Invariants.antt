use Rattle.std.proofs.Common.{◌≡◌}
use Rattle.st_receiver.specs.Money.{with_credits}
use Rattle.st_receiver.specs.Inside.{mix}
use Rattle.st_receiver.proofs.money.credit_all.Given as goal

abbrev pub invariant-loop-k : goal.invariant-loop-k
invariant-loop-k g l = l.slots.items ≡ mix l.k (with_credits l.fn.slots.items l.parts) l.fn.slots.items
