use Rattle.std.proofs.Common.{◌≡◌, ◌+◌, drop}
use Rattle.st_sender.specs.Paying.{paid_to}
use Rattle.st_sender.proofs.load.Flight.part.Given as goal

abbrev pub invariant-loop-payment : goal.invariant-loop-payment
invariant-loop-payment g l = l.part + paid_to l.number (drop l.payment-index l.payment-items) ≡ paid_to l.number l.payment-items
