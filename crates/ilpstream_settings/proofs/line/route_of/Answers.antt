use Rattle.std.proofs.Common.{[]}
use Rattle.ilpstream_settings.proofs.Lines.{four_words, no_rate, route_said}
use Rattle.ilpstream_settings.proofs.line.route_of.Goals as goal

pub returns-in_err-rate_of-in-len4 : goal.returns-in_err-rate_of-in-len4
returns-in_err-rate_of-in-len4 c =
    rw (c.from_residual-in_err-rate_of-in-len4.ensures, four_words c.args.words.now (record { ref_ptr = (0, 0); now = [] }) c.in-len4.len_at_least c.in-len4.len_below)
    (no_rate _ _ _ _ (rw (c.as_bytes.ensures.value, c.as_bytes-in-len4.ensures.value) at c.in_err-rate_of-in-len4.ensures))

pub returns-in_ok-rate_of-in-len4 : goal.returns-in_ok-rate_of-in-len4
returns-in_ok-rate_of-in-len4 c =
    rw (four_words c.args.words.now (record { ref_ptr = (0, 0); now = [] }) c.in-len4.len_at_least c.in-len4.len_below)
    (route_said _ _ _ _ _ (rw (c.as_bytes.ensures.value, c.as_bytes-in-len4.ensures.value) at c.in_ok-rate_of-in-len4.ensures) c.route_by-in-len4.result c.route_by-in-len4.ensures)
