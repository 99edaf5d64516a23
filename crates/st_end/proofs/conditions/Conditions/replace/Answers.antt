use Rattle.std.proofs.Common.{ap, ◌∙◌}
use Rattle.std.specs.Prelude.{is_some}
use Rattle.std.specs.Ordering.{nat_cmp}
use Rattle.std.specs.FinMap as map
use Rattle.st_end.proofs.Maps.{value_replaced}
use Rattle.st_end.proofs.conditions.Conditions.replace.Goals as goal

pub returns : goal.returns
returns g c =
    let n = c.args.sequence in
    let v = c.args.condition in
    let waits = ap (λ m. is_some (map.get m n)) c.self.view_is ∙ c.requires in
    ap (map.from_entries {R = nat_cmp}) c.renew_all.ensures ∙ value_replaced n v _ waits ∙ ap (λ m. map.insert m n v) c.self.view_is
