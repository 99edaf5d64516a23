use Rattle.st_keys.proofs.Memory.{opens_without_memory}
use Rattle.st_keys.proofs.laws.opens_without_memory.Goals as goal

pub returns : goal.returns
returns c = opens_without_memory
