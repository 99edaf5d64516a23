use Rattle.std.proofs.Common.{◌<◌, ◌∙◌, length, map, sym, ap, arith}
use Rattle.std.proofs.lemmas.List.{length-map}
use Rattle.st_receiver.specs.Closes.{with_abort}
use Rattle.st_receiver.proofs.Mixing.{mix-none, read_place, write_place, whole, map_at}
use Rattle.st_receiver.proofs.apply.abort_all.Goals as goal

pub loop-k-init : goal.loop-k-init
loop-k-init g c = sym (mix-none (map (with_abort c.args.code) c.args.slots.now.items) c.args.slots.now.items)

pub loop-k-preserved : goal.loop-k-preserved
loop-k-preserved g c =
    let os = c.args.slots.now.items in
    let gs = map (with_abort c.args.code) os in
    let k = c.loop-k.k in
    let l : k < length os = omega (arith, c.requires, c.loop-k-test.true) in
    let at = c.take-slot.ensures.value ∙ read_place gs os c.loop-k.slots.items k c.index_mut.result.now c.loop-k.invariant l c.index_mut.ensures.value in
    write_place gs os c.loop-k.slots.items k c.take-slot.new.self c.aborted.result c.loop-k.invariant (length-map os (with_abort c.args.code)) l (c.aborted.ensures ∙ ap (with_abort c.args.code) at ∙ sym (map_at (with_abort c.args.code) os k l))

pub returns : goal.returns
returns g c =
    let os = c.args.slots.now.items in
    whole (map (with_abort c.args.code) os) os c.loop-k.slots.items c.loop-k.k c.loop-k.invariant (length-map os (with_abort c.args.code)) (omega (arith, c.requires, c.loop-k-test.false, c.loop-k.auto.k-end))
