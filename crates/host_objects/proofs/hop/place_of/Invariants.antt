use Rattle.std.proofs.Common.{ℕ, ◌<◌}
use Rattle.st_hop.specs.declared.ticket.Open.{Open}
use Rattle.host_objects.specs.Hops.{IsTicket}
use Rattle.host_objects.proofs.hop.place_of.Given as goal

abbrev pub invariant-loop-place : goal.invariant-loop-place
invariant-loop-place l = (k : ℕ) (t : Open) → k < l.place → ¬ IsTicket l.state l.kept l.number k t
