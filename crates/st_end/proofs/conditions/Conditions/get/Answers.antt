use Rattle.std.proofs.Common.{ap, sym, ◌∙◌}
use Rattle.std.specs.Ordering.{nat_cmp}
use Rattle.std.specs.Cmp.{nat_cmp_total}
use Rattle.std.specs.FinMap.{get, find, get-from_entries}
use Rattle.st_end.proofs.conditions.Conditions.get.Goals as goal

pub loop-by-init : goal.loop-by-init
loop-by-init g c = ap (λ m. get m c.args.sequence) (sym c.self.view_is) ∙ get-from_entries nat_cmp_total _ _ ∙ ap (find nat_cmp c.args.sequence) (sym c.deref-by-items.ensures.value)
