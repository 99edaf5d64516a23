use Rattle.st_streams.proofs.Tables.{get-put_same}
use Rattle.st_streams.proofs.laws.same_is_put_pointwise.Goals as goal

pub returns : goal.returns
returns c = λ m offset n x q. get-put_same n m offset x q
