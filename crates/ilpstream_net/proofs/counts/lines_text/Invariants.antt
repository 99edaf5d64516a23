use Rattle.std.proofs.Common.{◌≡◌, take}
use Rattle.std.specs.Prelude.{string_bytes}
use Rattle.ilpstream_net.specs.Totals.{line_text, lines_from}
use Rattle.ilpstream_net.proofs.counts.lines_text.Given as goal

abbrev pub invariant-loop-number : goal.invariant-loop-number
invariant-loop-number l = string_bytes l.text ≡ lines_from (line_text l.line) 0 (take l.number l.counts)
