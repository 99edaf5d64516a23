use Rattle.st_world_parts.proofs.Flights.{nothing_kept}
use Rattle.st_world_parts.proofs.party.Party.new.Goals as goal

pub invariant_of-result : goal.invariant_of-result
invariant_of-result g c = nothing_kept _ _ _ _ _ _ _ c.in_ok-state.ensures.opening
