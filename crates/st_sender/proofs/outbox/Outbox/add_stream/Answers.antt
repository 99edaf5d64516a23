use Rattle.std.proofs.Common.{refl, sym, ap, ◌∙◌}
use Rattle.st_streams.specs.Slots.{slot}
use Rattle.st_sender.specs.Sending.{Sending, outgoing_at}
use Rattle.st_sender.proofs.Seen.{out_slot, not_open, opened_kept, seen_opened}
use Rattle.st_sender.proofs.outbox.Outbox.add_stream.Goals as goal

pub invariant_of-self : goal.invariant_of-self
invariant_of-self g c =
    let fresh = not_open (slot c.self.inside.streams.items c.args.stream) (sym (out_slot c.self.inside.streams.items c.args.stream) ∙ ap (λ (s : Sending). outgoing_at s c.args.stream) c.self.view_is ∙ c.requires.fresh) in
    let h = opened_kept c.self.inside.streams.items c.open.new.streams.items c.self.inside.flights.items c.args.stream c.self.invariant.0 c.self.invariant.1 fresh c.open.ensures in
    (h.0, h.1, c.self.invariant.2)

pub returns : goal.returns
returns g c = seen_opened _ _ c.self.inside.streams.items c.open.new.streams.items c.args.stream c.self.view_is refl c.open.ensures
