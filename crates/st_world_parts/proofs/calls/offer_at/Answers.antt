use Rattle.std.proofs.Common.{◌≡◌, ap, ◌∙◌, arith}
use Rattle.std.proofs.lemmas.Grind.{common_steps}
use Rattle.st_end.specs.Calls as calls
use Rattle.st_world_parts.specs.State.{Party}
use Rattle.st_world_parts.specs.Events.{Call}
use Rattle.st_world_parts.proofs.Slots.{at_slot, slot_keeps, offer_keeps}
use Rattle.st_world_parts.proofs.Flights.{same_kept}
use Rattle.st_world_parts.proofs.calls.offer_at.Goals as goal

pub invariant_of-party : goal.invariant_of-party
invariant_of-party g c = same_kept c.party.inside.state c.offer_slot.new.state _ (slot_keeps _ _ _ c.party.inside.state c.offer_slot.new.state _ _ (offer_keeps c.party.inside.state c.args.stream c.args.amount) c.offer_slot.ensures.met) c.party.invariant

pub returns-clause-met : goal.returns-clause-met
returns-clause-met g c =
    at_slot (λ e. calls.offer e c.args.stream c.args.amount) (λ x. x) _ _ _ _ _ _ _ _ _ _ _ c.party.view_is c.ledgers.view_is (grind (arith, common_steps)) (grind (arith, common_steps)) c.index_mut-slot.ensures.value c.offer_slot.ensures.met

pub returns-clause-called : goal.returns-clause-called
returns-clause-called g c = c.offer_slot.ensures.called ∙ ap (λ (p : Party). Call (calls.offer p.state c.args.stream c.args.amount).0) c.party.view_is
