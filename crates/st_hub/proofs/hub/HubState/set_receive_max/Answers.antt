use Rattle.std.proofs.Common.{subst, sym, arith}
use Rattle.st_queues.specs.Watching.{IsUpTo}
use Rattle.st_end.specs.Totals.{totals}
use Rattle.st_hub.proofs.Totals.{totals_rise, keeps_rises}
use Rattle.st_hub.proofs.hub.HubState.set_receive_max.Goals as goal

pub publish-requires : goal.publish-requires
publish-requires g c = subst (λ t. IsUpTo t (totals c.set_receive_max-answer.new.self.flow.core)) (sym c.self.invariant.0) (totals_rise _ _ (keeps_rises 0 _ _ c.set_receive_max-answer.ensures.keeps))

pub invariant_of-self : goal.invariant_of-self
invariant_of-self g c =
    let v = c.self.invariant in
    let k = c.set_receive_max-answer.ensures.keeps.read.credit in
    (c.publish.ensures, omega (arith, v.1, k), v.2, v.3, v.4)
