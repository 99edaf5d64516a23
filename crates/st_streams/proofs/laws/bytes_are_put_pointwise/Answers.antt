use Rattle.st_streams.proofs.Tables.{get-put_bytes}
use Rattle.st_streams.proofs.laws.bytes_are_put_pointwise.Goals as goal

pub returns : goal.returns
returns c = λ m offset xs q. get-put_bytes xs m offset q
