use Rattle.std.proofs.Common.{◌≡◌, take}
use Rattle.ilpstream_net.specs.Totals.{code_text, lines_from}
use Rattle.ilpstream_net.proofs.counts.codes_lines.Given as goal

abbrev pub invariant-loop-place : goal.invariant-loop-place
invariant-loop-place l = l.text.items ≡ lines_from (λ place. code_text) 0 (take l.place l.codes)
