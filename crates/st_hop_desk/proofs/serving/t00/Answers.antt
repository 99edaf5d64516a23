use Rattle.std.proofs.Common.{ap, ◌∙◌}
use Rattle.st_ilp.specs.Reading.{is_fulfill_text}
use Rattle.st_hop_desk.proofs.Fates.{ok_one, reject_fails}
use Rattle.st_hop_desk.proofs.serving.t00.Goals as goal

pub returns-clause-fails : goal.returns-clause-fails
returns-clause-fails g c = ok_one c.copy_of_t00.result (λ v copied. ap is_fulfill_text copied ∙ reject_fails _ _) c.copy_of_t00.ensures.copied
