use Rattle.std.proofs.Common.{subst, sym}
use Rattle.st_hub.specs.Trying.{Beside}
use Rattle.st_hub.specs.Keeping.{Keeps, OpensNoOwn}
use Rattle.st_hub.proofs.Ties.{core_sound}
use Rattle.st_hub.proofs.EndEvents.{known_keeps}
use Rattle.st_hub.proofs.Opening.{known_opens}
use Rattle.st_hub.proofs.streams.Streams.keep.Goals as goal

pub invariant_of-self : goal.invariant_of-self
invariant_of-self g c = core_sound _ _ 0 _ _ _ _ (subst (Keeps 0 _) (sym c.keep.ensures) (known_keeps _ _ _)) (subst (OpensNoOwn _) (sym c.keep.ensures) (known_opens _ _ _)) c.self.invariant

pub returns-clause-keeps : goal.returns-clause-keeps
returns-clause-keeps g c = subst (λ (f : Beside _). Keeps 0 f.flow.core c.keep.new.self) c.self.view_is (subst (Keeps 0 _) (sym c.keep.ensures) (known_keeps _ _ _))
