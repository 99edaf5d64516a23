use Rattle.ilpstream_log.proofs.Counts.{ten}
use Rattle.ilpstream_log.proofs.laws.ten_a_second.Goals as goal

pub returns : goal.returns
returns c = ten
