use Rattle.std.proofs.Common.{◌∙◌, ap, sym, length}
use Rattle.std.specs.FinMap.{len}
use Rattle.st_unacked.specs.Sent.{Sent}
use Rattle.st_unacked.specs.Chunks.{byte_in}
use Rattle.st_unacked.proofs.Counts.{shown_count}
use Rattle.st_unacked.proofs.unacked.Unacked.count.Goals as goal

pub returns : goal.returns
returns g c =
    c.kept_count.ensures c.self.inside.accepted c.self.invariant.tiled.outside
    ∙ sym (shown_count c.self.inside.runs.items (byte_in c.self.inside.chunks.items) 0 c.self.inside.accepted) ∙ ap (λ (s : Sent). len s.unacked) c.self.view_is
