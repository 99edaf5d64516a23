use Rattle.std.proofs.lemmas.Grind.{common_steps}
use Rattle.std.proofs.Common.{subst, sym, arith}
use Rattle.st_queues.specs.Watching.{IsUpTo}
use Rattle.st_end.specs.Totals.{totals}
use Rattle.st_hub.proofs.Expiries.{goes_expires}
use Rattle.st_hub.proofs.Totals.{totals_rise, keeps_rises}
use Rattle.st_hub.proofs.hub.HubState.take_unsealed.Goals as goal

pub publish-requires : goal.publish-requires
publish-requires g c = subst (λ t. IsUpTo t (totals c.send_unsealed-sent.new.self.flow.core)) (sym c.self.invariant.0) (totals_rise _ _ (keeps_rises 0 _ _ c.send_unsealed-sent.ensures.keeps))

pub turn_at-requires : goal.turn_at-requires
turn_at-requires g c =
    let sent = rw c.in-Ok-Some.is at c.send_unsealed-sent.ensures.goes in
    goes_expires _ _ _ _ _ _ (rw c.in-Ok-Some.field-0-is at sent).goes

pub invariant_of-self : goal.invariant_of-self
invariant_of-self g c = grind (arith, common_steps)

pub returns-clause-only_memory : goal.returns-clause-only_memory
returns-clause-only_memory g c = grind (arith, common_steps)

pub returns-clause-goes : goal.returns-clause-goes
returns-clause-goes g c = grind (arith, common_steps)

pub returns-clause-stops : goal.returns-clause-stops
returns-clause-stops g c = grind (arith, common_steps)

pub returns-clause-iv : goal.returns-clause-iv
returns-clause-iv g c = grind (arith, common_steps)

pub returns-clause-unchanged : goal.returns-clause-unchanged
returns-clause-unchanged g c = grind (arith, common_steps)

pub returns-clause-rest : goal.returns-clause-rest
returns-clause-rest g c = grind (arith, common_steps)
