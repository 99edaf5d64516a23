use Rattle.std.proofs.Common.{◌≡◌, ◌-◌, drop}
use Rattle.st_sender.specs.Paying.{flown_money}
use Rattle.st_sender.proofs.payments.without_money.Given as goal

abbrev pub invariant-loop-flight : goal.invariant-loop-flight
invariant-loop-flight g l = l.rest - flown_money l.number (drop l.flight-index l.flights) ≡ l.amount - flown_money l.number l.flights
