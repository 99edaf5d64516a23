use Rattle.std.proofs.Common.{◌≡◌, arith}
use Rattle.std.proofs.lemmas.Grind.{common_steps}
use Rattle.st_world_parts.proofs.Slots.{read_slot}
use Rattle.st_world_parts.proofs.calls.read_at.Goals as goal

pub returns-clause-met : goal.returns-clause-met
returns-clause-met g c =
    read_slot _ _ _ _ _ _ _ _ _ _ _ _ c.party.view_is c.ledgers.view_is (grind (arith, common_steps)) (grind (arith, common_steps)) c.index_mut-slot.ensures.value c.in_ok-told.ensures.met

pub index_mut-slot-requires : goal.index_mut-slot-requires
index_mut-slot-requires g c = grind (arith, common_steps)

pub read_slot-requires : goal.read_slot-requires
read_slot-requires g c = grind (arith, common_steps)

pub invariant_of-party : goal.invariant_of-party
invariant_of-party g c = grind (arith, common_steps)

pub invariant_of-ledgers : goal.invariant_of-ledgers
invariant_of-ledgers g c = grind (arith, common_steps)

pub returns-in_err-told-clause-met : goal.returns-in_err-told-clause-met
returns-in_err-told-clause-met g c = grind (arith, common_steps)

pub returns-in_err-told-clause-same_party : goal.returns-in_err-told-clause-same_party
returns-in_err-told-clause-same_party g c = grind (arith, common_steps)

pub returns-in_err-told-clause-same_ledgers : goal.returns-in_err-told-clause-same_ledgers
returns-in_err-told-clause-same_ledgers g c = grind (arith, common_steps)

pub invariant_of-ledgers-2 : goal.invariant_of-ledgers-2
invariant_of-ledgers-2 g c = grind (arith, common_steps)
