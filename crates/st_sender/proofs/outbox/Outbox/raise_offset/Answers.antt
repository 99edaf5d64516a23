use Rattle.std.proofs.Common.{arith, refl}
use Rattle.st_sender.specs.Answering.{told_data}
use Rattle.st_sender.specs.Lanes.{on_out}
use Rattle.st_sender.proofs.Seen.{seen_changed, kept}
use Rattle.st_sender.proofs.outbox.Outbox.raise_offset.Goals as goal

pub invariant_of-self : goal.invariant_of-self
invariant_of-self g c =
    let h = kept c.self.inside.streams.items c.raise.new.streams.items c.self.inside.flights.items c.args.stream (on_out (told_data c.args.max_offset)) (λ l. refl) (λ l. (omega arith, omega arith)) c.self.invariant.0 c.self.invariant.1 c.raise.ensures in
    (h.0, h.1, c.self.invariant.2)

pub returns : goal.returns
returns g c = seen_changed _ _ c.self.inside.streams.items c.raise.new.streams.items c.args.stream (told_data c.args.max_offset) c.self.view_is refl c.raise.ensures
