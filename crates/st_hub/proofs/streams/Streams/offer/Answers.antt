use Rattle.std.proofs.Common.{subst}
use Rattle.st_hub.specs.Trying.{Beside}
use Rattle.st_hub.specs.Keeping.{Keeps}
use Rattle.st_hub.proofs.Ties.{core_sound}
use Rattle.st_hub.proofs.EndEvents.{offer_keeps}
use Rattle.st_hub.proofs.Opening.{offer_opens}
use Rattle.st_hub.proofs.streams.Streams.offer.Goals as goal

pub invariant_of-self : goal.invariant_of-self
invariant_of-self g c = core_sound _ _ 0 _ _ _ _ (offer_keeps _ _ c.args.stream c.args.amount _ c.offer.ensures.answers) (offer_opens _ _ c.args.stream c.args.amount _ c.offer.ensures.answers) c.self.invariant

pub returns-clause-keeps : goal.returns-clause-keeps
returns-clause-keeps g c = subst (λ (f : Beside _). Keeps 0 f.flow.core c.offer.new.self) c.self.view_is (offer_keeps _ _ c.args.stream c.args.amount _ c.offer.ensures.answers)
