use Rattle.std.proofs.Common.{refl, ap, ◌∙◌}
use Rattle.st_sender.specs.Refusals.{all_accepted}
use Rattle.st_sender.proofs.Seen.{seen_streams}
use Rattle.st_sender.proofs.outbox.Outbox.accepted.Goals as goal

pub returns : goal.returns
returns g c = c.all_accepted.ensures ∙ ap all_accepted (seen_streams _ _ c.self.inside.streams.items c.self.view_is refl)
