use Rattle.std.proofs.Common.{sym}
use Rattle.st_hub.proofs.Merges.{told}
use Rattle.st_hub.proofs.laws.merges_are_told.Goals as goal

pub returns-clause-computed : goal.returns-clause-computed
returns-clause-computed g c log rings m = sym (told log rings m)
