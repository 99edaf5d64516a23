use Rattle.std.proofs.Common.{arith}
use Rattle.std.proofs.lemmas.Grind.{common_steps}
use Rattle.st_sender.proofs.load.blocked_at.Goals as goal

pub offset_bounds-flights-flight-index : goal.offset_bounds-flights-flight-index
offset_bounds-flights-flight-index g c = c.loop-flight.auto.flight-index-end

pub bounds-flights-flight-index : goal.bounds-flights-flight-index
bounds-flights-flight-index g c = c.loop-flight-test.true

pub returns-then-flight-sequence : goal.returns-then-flight-sequence
returns-then-flight-sequence g c = grind (arith, common_steps)

pub loop-flight-preserved : goal.loop-flight-preserved
loop-flight-preserved g c = grind (arith, common_steps)

pub returns : goal.returns
returns g c = grind (arith, common_steps)
