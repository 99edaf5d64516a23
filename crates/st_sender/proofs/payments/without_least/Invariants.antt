use Rattle.std.proofs.Common.{◌≡◌, ◌-◌, ◌<◌, ◌^◌, drop}
use Rattle.st_sender.specs.Paying.{flown_least}
use Rattle.st_sender.proofs.payments.without_least.Given as goal

abbrev pub invariant-loop-flight : goal.invariant-loop-flight
invariant-loop-flight g l = (l.rest - flown_least l.least l.number (drop l.flight-index l.flights) ≡ l.amount - flown_least l.least l.number l.flights) × (l.rest < 2 ^ 64)
