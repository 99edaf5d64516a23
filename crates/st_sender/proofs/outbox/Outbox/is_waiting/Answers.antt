use Rattle.std.proofs.Common.{refl, ap, ◌∙◌}
use Rattle.st_sender.specs.Waiting.{is_waiting}
use Rattle.st_sender.proofs.Seen.{seen_at}
use Rattle.st_sender.proofs.outbox.Outbox.is_waiting.Goals as goal

pub returns : goal.returns
returns g c = c.waiting.ensures ∙ ap is_waiting (seen_at _ _ c.self.inside.streams.items c.args.stream c.self.view_is refl)
