use Rattle.std.proofs.Common.{[]}
use Rattle.ilpstream_settings.proofs.Lines.{five_words, named_said, no_name, plain_said, six_words}
use Rattle.ilpstream_settings.proofs.line.account_of.Goals as goal

pub returns-in-len5 : goal.returns-in-len5
returns-in-len5 c =
    rw (five_words c.args.words.now (record { ref_ptr = (0, 0); now = [] }) c.in-len5.len_at_least c.in-len5.len_below)
    (plain_said _ _ _ _ _ c.account_by.result c.account_by.ensures)

pub returns-in_err-name_in-in-len6 : goal.returns-in_err-name_in-in-len6
returns-in_err-name_in-in-len6 c =
    rw (c.from_residual.ensures, six_words c.args.words.now (record { ref_ptr = (0, 0); now = [] }) c.in-len6.len_at_least c.in-len6.len_below)
    (no_name _ _ _ _ _ _ c.in_err-name_in-in-len6.ensures)

pub returns-in_ok-name_in-in-len6 : goal.returns-in_ok-name_in-in-len6
returns-in_ok-name_in-in-len6 c =
    rw (six_words c.args.words.now (record { ref_ptr = (0, 0); now = [] }) c.in-len6.len_at_least c.in-len6.len_below)
    (named_said _ _ _ _ _ _ _ c.in_ok-name_in-in-len6.ensures c.account_by-in-len6.result c.account_by-in-len6.ensures)
