use Rattle.std.proofs.Common.{subst}
use Rattle.st_hub.specs.Trying.{Beside}
use Rattle.st_hub.specs.Keeping.{Keeps}
use Rattle.st_hub.proofs.Ties.{core_sound}
use Rattle.st_hub.proofs.CoreCalls.{send_keeps}
use Rattle.st_hub.proofs.Opening.{send_opens}
use Rattle.st_hub.proofs.streams.Streams.send_unsealed.Goals as goal

pub invariant_of-self : goal.invariant_of-self
invariant_of-self g c = core_sound _ _ 0 _ _ _ _ (send_keeps _ _ c.args.iv c.args.now _ c.send_unsealed.ensures.goes c.send_unsealed.ensures.unchanged) (send_opens _ _ c.args.iv c.args.now _ c.send_unsealed.ensures.goes c.send_unsealed.ensures.unchanged) c.self.invariant

pub returns-clause-goes : goal.returns-clause-goes
returns-clause-goes g c = rw (← c.self.view_is) c.send_unsealed.ensures.goes

pub returns-clause-keeps : goal.returns-clause-keeps
returns-clause-keeps g c = subst (λ (f : Beside _). Keeps 0 f.flow.core c.send_unsealed.new.self) c.self.view_is (send_keeps _ _ c.args.iv c.args.now _ c.send_unsealed.ensures.goes c.send_unsealed.ensures.unchanged)
