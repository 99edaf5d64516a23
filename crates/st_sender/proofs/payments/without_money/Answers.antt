use Rattle.std.proofs.Common.{◌-◌, arith}
use Rattle.st_sender.specs.Flights.{part_of}
use Rattle.st_sender.specs.Paying.{flown_money}
use Rattle.st_sender.proofs.Money.{less_next, less_done}
use Rattle.st_sender.proofs.payments.without_money.Goals as goal

pub loop-flight-preserved : goal.loop-flight-preserved
loop-flight-preserved g c =
    less_next (part_of c.args.number) c.args.flights.now c.loop-flight.flight-index c.flight-item.result c.part.result c.loop-flight.rest c.saturating_sub-rest.result
    (c.args.amount - flown_money c.args.number c.args.flights.now) c.loop-flight-test.true c.flight-item.is c.part.ensures c.saturating_sub-rest.ensures c.loop-flight.invariant

pub returns : goal.returns
returns g c =
    less_done (part_of c.args.number) c.args.flights.now c.loop-flight.flight-index c.loop-flight.rest (c.args.amount - flown_money c.args.number c.args.flights.now) (omega (arith, c.loop-flight-test.false)) c.loop-flight.invariant
