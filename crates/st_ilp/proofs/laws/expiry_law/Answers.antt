use Rattle.st_ilp.proofs.ExpiryTexts.{expiry_reads}
use Rattle.st_ilp.proofs.laws.expiry_law.Goals as goal

pub returns : goal.returns
returns c = expiry_reads
