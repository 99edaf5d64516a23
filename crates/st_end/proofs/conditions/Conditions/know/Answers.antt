use Rattle.std.proofs.Common.{sym, ◌∙◌}
use Rattle.st_end.proofs.Lawfulness.{kept_found}
use Rattle.st_end.proofs.conditions.Conditions.know.Goals as goal

pub replace-requires : goal.replace-requires
replace-requires g c = kept_found _ _ (sym c.has.ensures ∙ c.if-has.true)
