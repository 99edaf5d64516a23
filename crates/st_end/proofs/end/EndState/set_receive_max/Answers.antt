use Rattle.std.proofs.Common.{ap, ◌∙◌}
use Rattle.st_end.proofs.Streams.{receives, max_receives}
use Rattle.st_receiver.specs.Streams.{Receiving}
use Rattle.st_end.proofs.Lawfulness.{lawful_received}
use Rattle.st_end.proofs.Numbered.{max_parity}
use Rattle.st_end.proofs.end.EndState.set_receive_max.Goals as goal

pub invariant_of-self : goal.invariant_of-self
invariant_of-self g c =
    (lawful_received _ c.set_receive_max.new.self.state (ap receives c.set_receive_max.ensures ∙ max_receives c.self.inside.intake.state _ c.args.amount) (ap (λ (x : Receiving). x.parity) c.set_receive_max.ensures ∙ max_parity c.self.inside.intake.state _ c.args.amount) c.self.invariant.0, c.self.invariant.1)
