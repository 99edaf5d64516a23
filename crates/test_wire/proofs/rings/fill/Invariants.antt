use Rattle.std.proofs.Common.{◌≡◌}
use Rattle.test_wire.proofs.rings.fill.Given as goal

abbrev pub invariant-loop : goal.invariant-loop
invariant-loop g l = l.writer.ring ≡ l.initial.writer.ring
