use Rattle.std.proofs.Common.{◌≡◌, arith}
use Rattle.std.proofs.lemmas.Grind.{common_steps}
use Rattle.st_end.specs.Calls as calls
use Rattle.st_world_parts.specs.StreamLogs.{written}
use Rattle.st_world_parts.proofs.Slots.{at_slot, slot_keeps, write_keeps}
use Rattle.st_world_parts.proofs.Flights.{same_kept}
use Rattle.st_world_parts.proofs.calls.write_at.Goals as goal

pub invariant_of-party-2 : goal.invariant_of-party-2
invariant_of-party-2 g c = same_kept c.party.inside.state c.write_slot.new.state _ (slot_keeps _ _ _ c.party.inside.state c.write_slot.new.state _ _ (write_keeps c.party.inside.state c.args.stream c.args.bytes.now) c.in_ok-told.ensures.met) c.party.invariant

pub returns-clause-met : goal.returns-clause-met
returns-clause-met g c =
    at_slot (λ e. calls.write e c.args.stream c.args.bytes.now) (written c.args.bytes.now) _ _ _ _ _ _ _ _ _ _ _ c.party.view_is c.ledgers.view_is (grind (arith, common_steps)) (grind (arith, common_steps)) c.index_mut-slot.ensures.value c.in_ok-told.ensures.met

pub index_mut-slot-requires : goal.index_mut-slot-requires
index_mut-slot-requires g c = grind (arith, common_steps)

pub invariant_of-party : goal.invariant_of-party
invariant_of-party g c = grind (arith, common_steps)

pub invariant_of-ledgers : goal.invariant_of-ledgers
invariant_of-ledgers g c = grind (arith, common_steps)

pub returns-in_err-told-clause-met : goal.returns-in_err-told-clause-met
returns-in_err-told-clause-met g c = grind (arith, common_steps)

pub returns-in_err-told-clause-same_party : goal.returns-in_err-told-clause-same_party
returns-in_err-told-clause-same_party g c = grind (arith, common_steps)

pub returns-in_err-told-clause-same_ledgers : goal.returns-in_err-told-clause-same_ledgers
returns-in_err-told-clause-same_ledgers g c = grind (arith, common_steps)

pub invariant_of-ledgers-2 : goal.invariant_of-ledgers-2
invariant_of-ledgers-2 g c = grind (arith, common_steps)
