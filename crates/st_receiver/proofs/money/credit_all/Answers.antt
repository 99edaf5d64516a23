use Rattle.std.proofs.Common.{◌≡◌, ◌<◌, ◌∙◌, Option, false, length, get_or, sym, ap, subst, arith}
use Rattle.st_receiver.specs.Streams.{Incoming}
use Rattle.st_receiver.specs.Money.{with_credit, with_credits, is_over_max}
use Rattle.st_receiver.proofs.Mixing.{mix-none, read_place, write_place, whole, credit_at, length-credits, fits_at}
use Rattle.st_receiver.proofs.money.credit_all.Goals as goal

pub loop-k-init : goal.loop-k-init
loop-k-init g c = sym (mix-none (with_credits c.args.slots.now.items c.args.parts.now) c.args.slots.now.items)

pub credited-requires : goal.credited-requires
credited-requires g c =
    let os = c.args.slots.now.items in
    let ps = c.args.parts.now in
    let k = c.loop-k.k in
    let l : k < length os = omega (arith, c.requires.size, c.loop-k-test.true) in
    let m : k < length ps = omega (arith, c.told-parts, c.loop-k-test.true) in
    let at = c.take-slot.ensures.value ∙ read_place (with_credits os ps) os c.loop-k.slots.items k c.index_mut.result.now c.loop-k.invariant l c.index_mut.ensures.value in
    subst (λ (o : Option Incoming). is_over_max o (get_or ps k 0) ≡ false) (sym at) (fits_at os ps k c.requires.fits l m)

pub loop-k-preserved : goal.loop-k-preserved
loop-k-preserved g c =
    let os = c.args.slots.now.items in
    let ps = c.args.parts.now in
    let gs = with_credits os ps in
    let k = c.loop-k.k in
    let l : k < length os = omega (arith, c.requires.size, c.loop-k-test.true) in
    let m : k < length ps = omega (arith, c.told-parts, c.loop-k-test.true) in
    let at = c.take-slot.ensures.value ∙ read_place gs os c.loop-k.slots.items k c.index_mut.result.now c.loop-k.invariant l c.index_mut.ensures.value in
    write_place gs os c.loop-k.slots.items k c.take-slot.new.self c.credited.result c.loop-k.invariant (length-credits os ps) l (c.credited.ensures ∙ ap (λ (o : Option Incoming). with_credit o (get_or ps k 0)) at ∙ sym (credit_at os ps k m))

pub returns : goal.returns
returns g c =
    let os = c.args.slots.now.items in
    let ps = c.args.parts.now in
    whole (with_credits os ps) os c.loop-k.slots.items c.loop-k.k c.loop-k.invariant (length-credits os ps) (omega (arith, c.requires.size, c.loop-k-test.false, c.loop-k.auto.k-end))
