use Rattle.std.proofs.Common.{ap}
use Rattle.st_end.specs.Unsealed.{Launched, launched}
use Rattle.st_end.proofs.unsealed.Unsealed.amount.Goals as goal

pub returns : goal.returns
unfolding launched
returns g c = ap (λ (x : Launched). x.amount) c.self.view_is
