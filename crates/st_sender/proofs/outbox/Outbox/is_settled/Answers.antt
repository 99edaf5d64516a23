use Rattle.std.proofs.Common.{refl, ap, ◌∙◌}
use Rattle.st_sender.specs.Answering.{is_settled}
use Rattle.st_sender.proofs.Seen.{seen_at}
use Rattle.st_sender.proofs.outbox.Outbox.is_settled.Goals as goal

pub returns : goal.returns
returns g c = c.settled.ensures ∙ ap is_settled (seen_at _ _ c.self.inside.streams.items c.args.stream c.self.view_is refl)
