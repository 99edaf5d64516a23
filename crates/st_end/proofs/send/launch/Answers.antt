use Rattle.std.proofs.lemmas.Grind.{common_steps}
use Rattle.std.proofs.Common.{ap, sym, subst, ◌∙◌, rules, arith}
use Rattle.std.specs.Arc.{arc_value}
use Rattle.std.specs.FinMap as map
use Rattle.st_end.specs.Unsealed.{Launched, launched}
use Rattle.st_end.specs.Inside.{IsSpelled}
use Rattle.st_end.proofs.Plain.{spelled}
use Rattle.st_end.proofs.send.launch.Goals as goal

pub new-requires-clause-front : goal.new-requires-clause-front
new-requires-clause-front g c = c.in_ok-plain.ensures.plain.front

pub new-requires-clause-back : goal.new-requires-clause-back
new-requires-clause-back g c = c.in_ok-plain.ensures.plain.back

pub returns-clause-spelled : goal.returns-clause-spelled
returns-clause-spelled g c =
    let bytes = c.in_ok-plain.plain.bytes.items in
    let at = c.in_ok-plain.plain.condition_at in
    let behind = c.in_ok-plain.plain.payload_at in
    let sequence = c.args.load.now.sequence in
    let keys = arc_value c.args.keys.now in
    let is = c.new.ensures ∙ ap (λ k. launched k c.args.iv c.sequence-2.result c.amount.result bytes at behind) c.in_ok-keys.ensures
    ∙ ap (λ n. launched keys c.args.iv n c.amount.result bytes at behind) c.sequence-2.ensures
    ∙ ap (λ n. launched keys c.args.iv c.args.load.now.sequence n bytes at behind) c.amount.ensures in
    subst (λ (x : Launched). IsSpelled keys c.args.peer.now c.args.iv c.args.now c.args.load.now x.flight x.bytes) (sym is) (spelled keys c.args.peer.now c.args.iv c.args.now c.args.load.now bytes at behind (search rules) c.in_ok-plain.ensures.plain)

pub returns-clause-amount : goal.returns-clause-amount
unfolding launched
returns-clause-amount g c = ap (λ (x : Launched). x.amount) c.new.ensures ∙ c.amount.ensures

pub returns-clause-booked : goal.returns-clause-booked
unfolding launched
returns-clause-booked g c =
    c.in_ok-insert.ensures.kept
    ∙ ap (λ n. map.insert c.args.conditions.now n c.args.iv) (c.sequence.ensures ∙ sym c.sequence-2.ensures)
    ∙ ap (λ (x : Launched). map.insert c.args.conditions.now x.flight.sequence c.args.iv) (sym c.new.ensures)

pub of-requires-clause-peer : goal.of-requires-clause-peer
of-requires-clause-peer g c = grind (arith, common_steps)

pub of-requires-clause-load : goal.of-requires-clause-load
of-requires-clause-load g c = grind (arith, common_steps)

pub returns-in_err-plain-clause-only_memory : goal.returns-in_err-plain-clause-only_memory
returns-in_err-plain-clause-only_memory g c = grind (arith, common_steps)

pub returns-in_err-plain-clause-spelled : goal.returns-in_err-plain-clause-spelled
returns-in_err-plain-clause-spelled g c = grind (arith, common_steps)

pub returns-in_err-plain-clause-amount : goal.returns-in_err-plain-clause-amount
returns-in_err-plain-clause-amount g c = grind (arith, common_steps)

pub returns-in_err-plain-clause-booked : goal.returns-in_err-plain-clause-booked
returns-in_err-plain-clause-booked g c = grind (arith, common_steps)

pub returns-in_err-plain-clause-unchanged : goal.returns-in_err-plain-clause-unchanged
returns-in_err-plain-clause-unchanged g c = grind (arith, common_steps)

pub returns-in_err-keys-clause-only_memory : goal.returns-in_err-keys-clause-only_memory
returns-in_err-keys-clause-only_memory g c = grind (arith, common_steps)

pub returns-in_err-keys-clause-spelled : goal.returns-in_err-keys-clause-spelled
returns-in_err-keys-clause-spelled g c = grind (arith, common_steps)

pub returns-in_err-keys-clause-amount : goal.returns-in_err-keys-clause-amount
returns-in_err-keys-clause-amount g c = grind (arith, common_steps)

pub returns-in_err-keys-clause-booked : goal.returns-in_err-keys-clause-booked
returns-in_err-keys-clause-booked g c = grind (arith, common_steps)

pub returns-in_err-keys-clause-unchanged : goal.returns-in_err-keys-clause-unchanged
returns-in_err-keys-clause-unchanged g c = grind (arith, common_steps)

pub slice_bounds-insert-end : goal.slice_bounds-insert-end
slice_bounds-insert-end g c = grind (arith, common_steps)

pub insert-requires : goal.insert-requires
insert-requires g c = grind (arith, common_steps)

pub returns-in_err-insert-clause-only_memory : goal.returns-in_err-insert-clause-only_memory
returns-in_err-insert-clause-only_memory g c = grind (arith, common_steps)

pub returns-in_err-insert-clause-spelled : goal.returns-in_err-insert-clause-spelled
returns-in_err-insert-clause-spelled g c = grind (arith, common_steps)

pub returns-in_err-insert-clause-amount : goal.returns-in_err-insert-clause-amount
returns-in_err-insert-clause-amount g c = grind (arith, common_steps)

pub returns-in_err-insert-clause-booked : goal.returns-in_err-insert-clause-booked
returns-in_err-insert-clause-booked g c = grind (arith, common_steps)

pub returns-in_err-insert-clause-unchanged : goal.returns-in_err-insert-clause-unchanged
returns-in_err-insert-clause-unchanged g c = grind (arith, common_steps)
