use Rattle.std.proofs.Common.{arith, refl}
use Rattle.st_sender.specs.Answering.{advertised_receive_max}
use Rattle.st_sender.specs.Lanes.{on_out}
use Rattle.st_sender.proofs.Seen.{seen_changed, kept}
use Rattle.st_sender.proofs.outbox.Outbox.raise_receive_max.Goals as goal

pub invariant_of-self : goal.invariant_of-self
invariant_of-self g c =
    let h = kept c.self.inside.streams.items c.raise_money.new.streams.items c.self.inside.flights.items c.args.stream (on_out (advertised_receive_max c.args.receive_max c.args.total)) (λ l. refl) (λ l. (omega arith, omega arith)) c.self.invariant.0 c.self.invariant.1 c.raise_money.ensures in
    (h.0, h.1, c.self.invariant.2)

pub returns : goal.returns
returns g c = seen_changed _ _ c.self.inside.streams.items c.raise_money.new.streams.items c.args.stream (advertised_receive_max c.args.receive_max c.args.total) c.self.view_is refl c.raise_money.ensures
