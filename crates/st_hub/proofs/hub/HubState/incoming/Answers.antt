use Rattle.std.proofs.lemmas.Grind.{common_steps}
use Rattle.std.proofs.Common.{subst, sym, arith}
use Rattle.st_queues.specs.Watching.{IsUpTo}
use Rattle.st_end.specs.Totals.{totals}
use Rattle.st_hub.proofs.Totals.{totals_rise, keeps_rises}
use Rattle.st_hub.proofs.hub.HubState.incoming.Goals as goal

pub publish-requires : goal.publish-requires
publish-requires g c = subst (λ t. IsUpTo t (totals c.receive.new.self.flow.core)) (sym c.self.invariant.0) (totals_rise _ _ (keeps_rises _ _ _ c.in-Ok.ensures.keeps))

pub invariant_of-self : goal.invariant_of-self
invariant_of-self g c = grind (arith, common_steps)

pub invariant_of-share : goal.invariant_of-share
invariant_of-share g c = grind (arith, common_steps)

pub returns-in_default-clause-refused : goal.returns-in_default-clause-refused
returns-in_default-clause-refused g c = grind (arith, common_steps)

pub returns-in_default-clause-rest : goal.returns-in_default-clause-rest
returns-in_default-clause-rest g c = grind (arith, common_steps)

pub overflow_sub-totals : goal.overflow_sub-totals
overflow_sub-totals g c = grind (arith, common_steps)

pub add-requires : goal.add-requires
add-requires g c = grind (arith, common_steps)

pub invariant_of-self-2 : goal.invariant_of-self-2
invariant_of-self-2 g c = grind (arith, common_steps)

pub invariant_of-share-2 : goal.invariant_of-share-2
invariant_of-share-2 g c = grind (arith, common_steps)

pub returns-clause-answers : goal.returns-clause-answers
returns-clause-answers g c = grind (arith, common_steps)

pub returns-clause-credited : goal.returns-clause-credited
returns-clause-credited g c = grind (arith, common_steps)

pub returns-clause-rest : goal.returns-clause-rest
returns-clause-rest g c = grind (arith, common_steps)
