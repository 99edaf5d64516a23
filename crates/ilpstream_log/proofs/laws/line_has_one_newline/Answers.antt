use Rattle.ilpstream_log.proofs.Newlines.{one_newline}
use Rattle.ilpstream_log.proofs.laws.line_has_one_newline.Goals as goal

pub returns : goal.returns
returns c = one_newline
