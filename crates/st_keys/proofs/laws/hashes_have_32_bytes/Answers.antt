use Rattle.st_keys.proofs.Lengths.{fulfillment_is, condition_is}
use Rattle.st_keys.proofs.laws.hashes_have_32_bytes.Goals as goal

pub returns : goal.returns
returns c = record { fulfillment = fulfillment_is; condition = condition_is }
