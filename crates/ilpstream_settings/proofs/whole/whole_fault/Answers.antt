use Rattle.std.proofs.Common.{◌≡◌, ◌∙◌, ap, map}
use Rattle.std.specs.Str.Lines.{lines}
use Rattle.std.proofs.lemmas.Iterator.Consumers.{map_from_collect}
use Rattle.std.proofs.lemmas.Iterator.Splits.{YieldsList-from_lines}
use Rattle.ilpstream_settings.proofs.Placing.{found_of, no_text}
use Rattle.ilpstream_settings.proofs.whole.whole_fault.Goals as goal

pub returns-in_default : goal.returns-in_default
returns-in_default g c = no_text c.args.bytes.now c.in_default.ensures

pub returns : goal.returns
returns g c =
    let items = rw c.in_ok-lines.was at (map_from_collect _ c.collect.ensures.ran (YieldsList-from_lines c.in-Some.text.now c.lines.ensures.rest)) in
    let all : map (λ w. w.now) c.deref.result.now ≡ lines c.in-Some.text.now = rw c.deref.ensures.value items in
    let same : map (λ w. w.now) c.deref.result.now ≡ lines c.args.bytes.now = all ∙ ap lines c.in-Some.ensures.1 in
    found_of c.args.bytes.now c.lines_fault.result (rw same at c.lines_fault.ensures)
