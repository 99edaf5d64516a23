use Rattle.std.proofs.Common.{◌≡◌, ◌+◌, drop}
use Rattle.st_sender.specs.Paying.{total}
use Rattle.st_sender.proofs.load.total.Given as goal

abbrev pub invariant-loop-payment : goal.invariant-loop-payment
invariant-loop-payment l = l.sum + total (drop l.payment-index l.payments) ≡ total l.payments
