use Rattle.std.proofs.Common.{arith, ◌∙◌, length}
use Rattle.st_sender.proofs.Totals.{accepted_within, room_for, found_at}
use Rattle.std.proofs.lemmas.Grind.{common_steps}
use Rattle.st_sender.proofs.streams.accept.Goals as goal

pub accept-requires : goal.accept-requires
accept-requires g c =
    let here = found_at c.args.streams.now.items c.place-place.result c.index_mut.result.now (omega (arith, c.if-place-len.false, c.len.ensures)) c.index_mut.ensures.value ∙ c.in-Some.is in
    let most = accepted_within c.args.streams.now.items c.place-place.result c.in-Some.found here in
    room_for c.all_accepted-all.result (length c.args.bytes.now) c.in-Some.found.out.accepted c.is_too_much.result c.is_too_much.ensures c.if-is_too_much.false (omega (arith, most, c.all_accepted-all.ensures))

pub index_mut-requires : goal.index_mut-requires
index_mut-requires g c = omega (arith, c.if-place-len.false, c.len.ensures)

pub returns-then-place-len-clause-unchanged : goal.returns-then-place-len-clause-unchanged
returns-then-place-len-clause-unchanged g c = grind (arith, common_steps)

pub returns-then-place-len-clause-refuses : goal.returns-then-place-len-clause-refuses
returns-then-place-len-clause-refuses g c = grind (arith, common_steps)

pub returns-then-is_closed-clause-unchanged : goal.returns-then-is_closed-clause-unchanged
returns-then-is_closed-clause-unchanged g c = grind (arith, common_steps)

pub returns-then-is_closed-clause-refuses : goal.returns-then-is_closed-clause-refuses
returns-then-is_closed-clause-refuses g c = grind (arith, common_steps)

pub returns-then-is_full_with-clause-unchanged : goal.returns-then-is_full_with-clause-unchanged
returns-then-is_full_with-clause-unchanged g c = grind (arith, common_steps)

pub returns-then-is_full_with-clause-refuses : goal.returns-then-is_full_with-clause-refuses
returns-then-is_full_with-clause-refuses g c = grind (arith, common_steps)

pub returns-in-None-clause-unchanged : goal.returns-in-None-clause-unchanged
returns-in-None-clause-unchanged g c = grind (arith, common_steps)

pub returns-in-None-clause-refuses : goal.returns-in-None-clause-refuses
returns-in-None-clause-refuses g c = grind (arith, common_steps)

pub returns-else-is_too_much-clause-accepts : goal.returns-else-is_too_much-clause-accepts
returns-else-is_too_much-clause-accepts g c = grind (arith, common_steps)

pub returns-else-is_too_much-clause-unchanged : goal.returns-else-is_too_much-clause-unchanged
returns-else-is_too_much-clause-unchanged g c = grind (arith, common_steps)

pub returns-else-is_too_much-clause-refuses : goal.returns-else-is_too_much-clause-refuses
returns-else-is_too_much-clause-refuses g c = grind (arith, common_steps)
