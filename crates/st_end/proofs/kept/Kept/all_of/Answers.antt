use Rattle.std.proofs.Common.{◌∙◌}
use Rattle.std.proofs.lemmas.List.{take_all}
use Rattle.st_end.proofs.kept.Kept.all_of.Goals as goal

pub returns : goal.returns
returns g c = c.first_of.ensures ∙ take_all _ _ c.requires
