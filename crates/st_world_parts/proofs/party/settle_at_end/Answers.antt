use Rattle.st_world_parts.proofs.Flights.{spent_kept}
use Rattle.st_world_parts.proofs.party.settle_at_end.Goals as goal

pub invariant_of-party : goal.invariant_of-party
invariant_of-party g c =
    spent_kept c.party.inside.state c.answer-taken.new.self c.take_flight-flight.result c.flight-wanted.result _ c.party.inside.kept.items _ _ c.in-Some.place c.answer-taken.ensures.left c.take_flight-flight.ensures.taken c.in-Some.ensures.found.1 c.deref.ensures.value c.in-Some.ensures.found.0 c.take_flight-flight.ensures.rest c.party.invariant

pub invariant_of-party-in-Fault : goal.invariant_of-party-in-Fault
invariant_of-party-in-Fault g c =
    spent_kept c.party.inside.state c.fault.new.self c.take_flight-flight.result c.flight-wanted.result _ c.party.inside.kept.items _ _ c.in-Some.place c.fault.ensures c.take_flight-flight.ensures.taken c.in-Some.ensures.found.1 c.deref.ensures.value c.in-Some.ensures.found.0 c.take_flight-flight.ensures.rest c.party.invariant
