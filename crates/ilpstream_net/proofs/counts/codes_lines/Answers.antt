use Rattle.std.proofs.Common.{◌∙◌, arith}
use Rattle.ilpstream_net.specs.Totals.{code_text, lines_from}
use Rattle.ilpstream_net.proofs.Totalled.{next_line}
use Rattle.ilpstream_net.proofs.counts.codes_lines.Goals as goal

pub loop-place-init : goal.loop-place-init
unfolding lines_from
loop-place-init c = c.new-text.ensures.items

pub loop-place-preserved : goal.loop-place-preserved
loop-place-preserved c =
    next_line (λ place. code_text) c.args.codes.now c.loop-place.place _ _ c.deref.result.now _ (omega arith) c.loop-place.invariant (c.deref.ensures.value ∙ c.in_ok-line.ensures) c.in_ok-extend_from_slice.ensures.items
