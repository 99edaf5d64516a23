use Rattle.std.proofs.Common.{◌≡◌, ap, ◌∙◌, arith}
use Rattle.std.proofs.lemmas.Grind.{common_steps}
use Rattle.st_end.specs.Calls as calls
use Rattle.st_world_parts.specs.State.{Party}
use Rattle.st_world_parts.specs.Events.{Call}
use Rattle.st_world_parts.specs.StreamLogs.{given_up}
use Rattle.st_world_parts.proofs.Slots.{at_slot, slot_keeps, abort_keeps}
use Rattle.st_world_parts.proofs.Flights.{same_kept}
use Rattle.st_world_parts.proofs.calls.abort_at.Goals as goal

pub invariant_of-party : goal.invariant_of-party
invariant_of-party g c = same_kept c.party.inside.state c.abort_slot.new.state _ (slot_keeps _ _ _ c.party.inside.state c.abort_slot.new.state _ _ (abort_keeps c.party.inside.state c.args.stream c.args.code) c.abort_slot.ensures.met) c.party.invariant

pub returns-clause-met : goal.returns-clause-met
returns-clause-met g c =
    at_slot (λ e. calls.abort e c.args.stream c.args.code) given_up _ _ _ _ _ _ _ _ _ _ _ c.party.view_is c.ledgers.view_is (grind (arith, common_steps)) (grind (arith, common_steps)) c.index_mut-slot.ensures.value c.abort_slot.ensures.met

pub returns-clause-called : goal.returns-clause-called
returns-clause-called g c = c.abort_slot.ensures.called ∙ ap (λ (p : Party). Call (calls.abort p.state c.args.stream c.args.code).0) c.party.view_is
