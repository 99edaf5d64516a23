use Rattle.std.proofs.Common.{◌≡◌, map}
use Rattle.std.specs.Str.Lines.{lines}
use Rattle.std.proofs.lemmas.Iterator.Consumers.{map_from_collect}
use Rattle.std.proofs.lemmas.Iterator.Splits.{YieldsList-from_lines}
use Rattle.ilpstream_settings.proofs.fault.text_fault.Goals as goal

pub returns : goal.returns
returns g c =
    let items = rw c.in_ok-lines.was at (map_from_collect _ c.collect.ensures.ran (YieldsList-from_lines c.args.text.now c.lines.ensures.rest)) in
    let all : map (λ w. w.now) c.deref.result.now ≡ lines c.args.text.now = rw c.deref.ensures.value items in
    rw all at c.first_fault.ensures
