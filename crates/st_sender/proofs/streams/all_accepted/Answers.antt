use Rattle.std.proofs.Common.{◌∙◌, refl, arith, ap}
use Rattle.std.specs.declared.option.Option.{Option}
use Rattle.st_streams.specs.Slots.{Slots}
use Rattle.st_sender.specs.Lanes.{SendStream, outs, out_of}
use Rattle.st_sender.specs.Refusals.{accepted_of, all_accepted}
use Rattle.st_sender.proofs.Totals.{total_next, total_whole}
use Rattle.st_sender.proofs.streams.all_accepted.Goals as goal

pub loop-place-init : goal.loop-place-init
loop-place-init g c = (omega arith, omega arith)

pub overflow_add-total : goal.overflow_add-total
overflow_add-total g c = omega (arith, c.loop-place.invariant.1, c.loop-place-test.true, c.accepted_in.type_inv, c.from-total.ensures, c.deref-place-items.ensures.len)

pub loop-place-preserved : goal.loop-place-preserved
loop-place-preserved g c = (
  total_next (λ (lanes : Slots SendStream). all_accepted (outs lanes)) (λ (o : Option SendStream). accepted_of (out_of o)) (λ x xs. refl) c.deref-place-items.result.now c.args.streams.now.items c.loop-place.total c.from-total.result c.loop-place.place-index c.place-item.result
      c.deref-place-items.ensures.value c.loop-place-test.true (c.from-total.ensures ∙ c.accepted_in.ensures ∙ ap (λ (o : Option SendStream). accepted_of (out_of o)) c.place-item.is) c.loop-place.invariant.0,
  omega (arith, c.loop-place.invariant.1, c.accepted_in.type_inv, c.from-total.ensures),
)

pub returns : goal.returns
returns g c =
    total_whole (λ (lanes : Slots SendStream). all_accepted (outs lanes)) refl c.deref-place-items.result.now c.args.streams.now.items c.loop-place.total c.loop-place.place-index c.deref-place-items.ensures.value (omega (arith, c.loop-place-test.false)) c.loop-place.invariant.0

pub offset_bounds-place-items-place-index : goal.offset_bounds-place-items-place-index
offset_bounds-place-items-place-index g c = omega (arith, c.loop-place-test.true)
