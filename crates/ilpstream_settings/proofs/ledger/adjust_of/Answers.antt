use Rattle.std.proofs.Common.{[]}
use Rattle.ilpstream_settings.proofs.Lines.{six_words}
use Rattle.ilpstream_settings.proofs.ledger.adjust_of.Goals as goal

pub returns : goal.returns
returns c = rw (six_words c.args.words.now (record { ref_ptr = (0, 0); now = [] }) c.in-len6.len_at_least c.in-len6.len_below) c.adjusted_by.ensures
