use Rattle.std.proofs.Common.{refl, None}
use Rattle.st_sender.specs.Answering.{Plain}
use Rattle.st_end.proofs.Lawfulness.{lawful_ended, failed_left}
use Rattle.st_end.proofs.end.EndState.fault.Goals as goal

pub invariant_of-self : goal.invariant_of-self
invariant_of-self g c =
    (lawful_ended _ c.args.self.now _ c.args.flight c.spend-flight.result None c.self.view_is c.spend-flight.ensures c.requires c.self.invariant.0 refl refl refl (λ p at. failed_left _ _ _ p Plain at c.failed.ensures) c.remove.ensures, c.self.invariant.1)
