use Rattle.std.proofs.Common.{arith, ◌∙◌}
use Rattle.st_sender.proofs.Totals.{offered_within, room_for, found_at}
use Rattle.std.proofs.lemmas.Grind.{common_steps}
use Rattle.st_sender.proofs.streams.offer.Goals as goal

pub offer-requires : goal.offer-requires
offer-requires g c =
    let here = found_at c.args.streams.now.items c.place-place.result c.index_mut.result.now (omega (arith, c.if-place-len.false, c.len.ensures)) c.index_mut.ensures.value ∙ c.in-Some.is in
    let most = offered_within c.args.streams.now.items c.place-place.result c.in-Some.found here in
    room_for c.all_offered-all.result (c.args.amount) c.in-Some.found.out.offered c.is_too_much.result c.is_too_much.ensures c.if-is_too_much.false (omega (arith, most, c.all_offered-all.ensures))

pub index_mut-requires : goal.index_mut-requires
index_mut-requires g c = omega (arith, c.if-place-len.false, c.len.ensures)

pub returns-then-place-len-clause-unchanged : goal.returns-then-place-len-clause-unchanged
returns-then-place-len-clause-unchanged g c = grind (arith, common_steps)

pub returns-then-place-len-clause-refuses : goal.returns-then-place-len-clause-refuses
returns-then-place-len-clause-refuses g c = grind (arith, common_steps)

pub returns-then-is_closed-clause-unchanged : goal.returns-then-is_closed-clause-unchanged
returns-then-is_closed-clause-unchanged g c = grind (arith, common_steps)

pub returns-then-is_closed-clause-refuses : goal.returns-then-is_closed-clause-refuses
returns-then-is_closed-clause-refuses g c = grind (arith, common_steps)

pub returns-then-is_too_much-clause-unchanged : goal.returns-then-is_too_much-clause-unchanged
returns-then-is_too_much-clause-unchanged g c = grind (arith, common_steps)

pub returns-then-is_too_much-clause-refuses : goal.returns-then-is_too_much-clause-refuses
returns-then-is_too_much-clause-refuses g c = grind (arith, common_steps)

pub returns-in-None-clause-unchanged : goal.returns-in-None-clause-unchanged
returns-in-None-clause-unchanged g c = grind (arith, common_steps)

pub returns-in-None-clause-refuses : goal.returns-in-None-clause-refuses
returns-in-None-clause-refuses g c = grind (arith, common_steps)

pub returns-else-is_too_much-clause-offers : goal.returns-else-is_too_much-clause-offers
returns-else-is_too_much-clause-offers g c = grind (arith, common_steps)

pub returns-else-is_too_much-clause-refuses : goal.returns-else-is_too_much-clause-refuses
returns-else-is_too_much-clause-refuses g c = grind (arith, common_steps)
