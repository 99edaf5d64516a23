use Rattle.std.proofs.Common.{subst}
use Rattle.st_unacked.specs.Sent.{Sent, IsPastDue}
use Rattle.st_unacked.specs.Chunks.{byte_in}
use Rattle.st_unacked.proofs.Views.{past_view}
use Rattle.st_unacked.proofs.unacked.Unacked.past_due.Goals as goal

pub returns : goal.returns
returns g c =
    subst (λ (s : Sent). IsPastDue s c.past_due.result) c.self.view_is
    (past_view c.self.inside.runs.items (byte_in c.self.inside.chunks.items) 0 c.self.inside.accepted c.self.invariant.tiled c.past_due.result c.past_due.ensures.past c.past_due.ensures.last)
