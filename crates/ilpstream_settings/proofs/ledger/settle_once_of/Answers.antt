use Rattle.std.proofs.Common.{[]}
use Rattle.ilpstream_settings.proofs.Lines.{five_words}
use Rattle.ilpstream_settings.proofs.ledger.settle_once_of.Goals as goal

pub returns : goal.returns
returns c = rw (five_words c.args.words.now (record { ref_ptr = (0, 0); now = [] }) c.in-len5.len_at_least c.in-len5.len_below) c.once_by.ensures
