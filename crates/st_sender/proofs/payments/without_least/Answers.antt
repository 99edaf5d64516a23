use Rattle.std.proofs.Common.{ℕ, ◌-◌, ◌∙◌, ap, arith}
use Rattle.st_oer.specs.Ratios.{exchanged}
use Rattle.st_sender.specs.Sending.{Flight}
use Rattle.st_sender.specs.Flights.{part_of}
use Rattle.st_sender.specs.Paying.{flown_least}
use Rattle.st_sender.proofs.Money.{less_next, less_done}
use Rattle.st_sender.proofs.payments.without_least.Goals as goal

pub loop-flight-init : goal.loop-flight-init
loop-flight-init g c = (omega (arith, c.from-rest.ensures), omega (arith, c.from-rest.ensures, c.ranges.amount.fits))

pub loop-flight-preserved : goal.loop-flight-preserved
loop-flight-preserved g c = (
  less_next (λ (p : Flight). exchanged c.args.least (part_of c.args.number p)) c.args.flights.now c.loop-flight.flight-index c.flight-item.result c.of.result c.loop-flight.rest c.saturating_sub-rest.result
      (c.args.amount - flown_least c.args.least c.args.number c.args.flights.now)
      c.loop-flight-test.true c.flight-item.is (c.of.ensures ∙ ap (λ (n : ℕ). exchanged c.args.least n) c.part.ensures) c.saturating_sub-rest.ensures c.loop-flight.invariant.0,
  omega (arith, c.saturating_sub-rest.ensures, c.loop-flight.invariant.1),
)

pub overflow_cast-result : goal.overflow_cast-result
overflow_cast-result g c = omega (arith, c.loop-flight.invariant.1)

pub returns : goal.returns
returns g c =
    less_done (λ (p : Flight). exchanged c.args.least (part_of c.args.number p)) c.args.flights.now c.loop-flight.flight-index c.loop-flight.rest (c.args.amount - flown_least c.args.least c.args.number c.args.flights.now) (omega (arith, c.loop-flight-test.false)) c.loop-flight.invariant.0
