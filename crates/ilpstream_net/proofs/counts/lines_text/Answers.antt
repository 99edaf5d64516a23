use Rattle.std.proofs.Common.{◌∙◌, arith}
use Rattle.ilpstream_net.specs.Totals.{line_text, lines_from}
use Rattle.ilpstream_net.proofs.Totalled.{next_line}
use Rattle.ilpstream_net.proofs.counts.lines_text.Goals as goal

pub loop-number-init : goal.loop-number-init
unfolding lines_from
loop-number-init c = c.new-text.ensures.bytes

pub loop-number-preserved : goal.loop-number-preserved
loop-number-preserved c =
    next_line (line_text c.args.line) c.args.counts.now c.loop-number.number _ _ c.as_str.result.now _ (omega arith) c.loop-number.invariant (c.as_str.ensures.value ∙ c.in_ok-one.ensures) c.in_ok-push_str.ensures.bytes
