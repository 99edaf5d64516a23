use Rattle.std.proofs.Common.{◌∙◌, false, map, sym, arith}
use Rattle.std.proofs.lemmas.List.{ext_get_or, length-map}
use Rattle.st_receiver.specs.Inside.{over_of}
use Rattle.st_receiver.proofs.Tallying.{over_at}
use Rattle.st_receiver.proofs.closing.all_over.Goals as goal

pub returns : goal.returns
returns g c =
    let ss = c.args.slots.now.items in
    let i = c.loop-k.invariant in
    ext_get_or false c.loop-k.over (map over_of ss) (i.0 ∙ sym c.requires ∙ sym (length-map ss over_of))
    (λ k l. i.1 k (omega (arith, l, i.0, c.loop-k-test.false)) ∙ sym (over_at ss k))
