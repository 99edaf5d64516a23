use Rattle.std.proofs.Common.{subst}
use Rattle.st_hub.specs.Trying.{Beside}
use Rattle.st_hub.specs.Keeping.{Keeps}
use Rattle.st_hub.proofs.Ties.{core_sound}
use Rattle.st_hub.proofs.EndEvents.{max_keeps}
use Rattle.st_hub.proofs.Opening.{max_opens}
use Rattle.st_hub.proofs.streams.Streams.set_receive_max.Goals as goal

pub invariant_of-self : goal.invariant_of-self
invariant_of-self g c = core_sound _ _ 0 _ _ _ _ (max_keeps _ _ c.args.stream c.args.amount _ c.set_receive_max.ensures.answers) (max_opens _ _ c.args.stream c.args.amount _ c.set_receive_max.ensures.answers) c.self.invariant

pub returns-clause-keeps : goal.returns-clause-keeps
returns-clause-keeps g c = subst (λ (f : Beside _). Keeps 0 f.flow.core c.set_receive_max.new.self) c.self.view_is (max_keeps _ _ c.args.stream c.args.amount _ c.set_receive_max.ensures.answers)
