use Rattle.ilpstream_log.specs.Writing.{Writes}
use Rattle.ilpstream_log.proofs.outlet.Outlet.round.Given as goal

abbrev pub invariant-loop : goal.invariant-loop
invariant-loop g l = Writes g.W.Write.contents l.fn.self l.self
