use Rattle.std.proofs.Common.{ap, ◌∙◌}
use Rattle.std.specs.Ordering.{nat_cmp}
use Rattle.std.specs.FinMap as map
use Rattle.st_end.proofs.Maps.{others_removed}
use Rattle.st_end.proofs.conditions.Conditions.remove.Goals as goal

pub returns : goal.returns
returns g c = ap (map.from_entries {R = nat_cmp}) c.keep_others.ensures ∙ others_removed _ _ ∙ ap (λ m. map.remove m c.args.sequence) c.self.view_is
