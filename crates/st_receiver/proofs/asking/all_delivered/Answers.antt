use Rattle.std.proofs.lemmas.Grind.{common_steps}
use Rattle.std.proofs.Common.{◌≡◌, ◌+◌, length, map, take, sym, subst, ap, ◌∙◌, arith}
use Rattle.std.specs.Prelude.{sum}
use Rattle.st_receiver.specs.Streams.{delivered_of}
use Rattle.st_receiver.proofs.Tracking.{delivered_more}
use Rattle.st_receiver.proofs.asking.all_delivered.Goals as goal

pub loop-slot-preserved : goal.loop-slot-preserved
loop-slot-preserved g c =
    let more = delivered_more c.deref-slot-items.result.now c.loop-slot.slot-index c.slot-item.result c.from-total.result c.loop-slot-test.true c.slot-item.is (c.from-total.ensures ∙ c.delivered_of.ensures) in
    let same = subst (λ xs. sum (take (c.loop-slot.slot-index + 1) (map delivered_of xs)) ≡ sum (take c.loop-slot.slot-index (map delivered_of xs)) + c.from-total.result) c.deref-slot-items.ensures.value more in
    (ap (λ n. n + c.from-total.result) c.loop-slot.invariant.0 ∙ sym same, omega arith)

pub overflow_add-total : goal.overflow_add-total
overflow_add-total g c =
    let whole = ap length c.deref-slot-items.ensures.value ∙ c.requires in
    omega (arith, c.loop-slot.invariant.1, c.loop-slot-test.true, whole, c.delivered_of.type_inv, c.from-total.ensures)

pub returns-clause-fits : goal.returns-clause-fits
returns-clause-fits g c =
    let whole = ap length c.deref-slot-items.ensures.value ∙ c.requires in
    omega (arith, c.loop-slot.invariant.1, c.loop-slot.auto.slot-index-end, whole)

pub loop-slot-init : goal.loop-slot-init
loop-slot-init g c = grind (arith, common_steps)

pub offset_bounds-slot-items-slot-index : goal.offset_bounds-slot-items-slot-index
offset_bounds-slot-items-slot-index g c = grind (arith, common_steps)

pub returns-clause-total : goal.returns-clause-total
returns-clause-total g c = grind (arith, common_steps)
