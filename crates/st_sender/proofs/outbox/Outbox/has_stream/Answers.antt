use Rattle.std.proofs.Common.{refl, sym, ap, ◌∙◌}
use Rattle.st_streams.specs.Slots.{slot}
use Rattle.st_sender.specs.Lanes.{out_of}
use Rattle.st_sender.proofs.Seen.{seen_at, not_open}
use Rattle.st_sender.proofs.outbox.Outbox.has_stream.Goals as goal

pub returns-clause-yes : goal.returns-clause-yes
returns-clause-yes g c = λ t n. c.is_open.ensures.yes t (not_open (slot c.self.inside.streams.items c.args.stream) (seen_at _ _ c.self.inside.streams.items c.args.stream c.self.view_is refl ∙ n))

pub returns-clause-no : goal.returns-clause-no
returns-clause-no g c = λ t. sym (seen_at _ _ c.self.inside.streams.items c.args.stream c.self.view_is refl) ∙ ap out_of (c.is_open.ensures.no t)
