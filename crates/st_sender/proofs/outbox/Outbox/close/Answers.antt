use Rattle.std.proofs.Common.{arith, refl}
use Rattle.st_sender.specs.Accepting.{after_clean}
use Rattle.st_sender.specs.Lanes.{on_out}
use Rattle.st_sender.specs.Refusals.{refusal_at, is_closed, no_more, Answers}
use Rattle.st_sender.specs.Sending.{Outgoing}
use Rattle.st_streams.specs.Slots.{Slots}
use Rattle.std.specs.declared.option.Option.{Option}
use Rattle.st_sender.proofs.Seen.{on_ok, on_err, either_way, seen_changed, seen_same, refused_as, kept, unchanged}
use Rattle.st_sender.proofs.outbox.Outbox.close.Goals as goal

pub invariant_of-self : goal.invariant_of-self
invariant_of-self g c =
    let h = either_way c.close.result
    (kept c.self.inside.streams.items c.close.new.streams.items c.self.inside.flights.items c.args.stream (on_out after_clean) (λ l. refl) (λ l. (omega arith, omega arith)) c.self.invariant.0 c.self.invariant.1)
    (unchanged c.self.inside.streams.items c.close.new.streams.items c.self.inside.flights.items c.self.invariant.0 c.self.invariant.1)
    c.close.ensures.closes c.close.ensures.unchanged in
    (h.0, h.1, c.self.invariant.2)

pub returns-clause-closes : goal.returns-clause-closes
returns-clause-closes g c =
    on_ok c.close.result (seen_changed _ _ c.self.inside.streams.items c.close.new.streams.items c.args.stream after_clean c.self.view_is refl) c.close.ensures.closes

pub returns-clause-unchanged : goal.returns-clause-unchanged
returns-clause-unchanged g c = on_err c.close.result (seen_same _ _ c.self.inside.streams.items c.close.new.streams.items c.self.view_is refl) c.close.ensures.unchanged

pub returns-clause-refuses : goal.returns-clause-refuses
returns-clause-refuses g c =
    refused_as _ _ c.self.inside.streams.items c.args.stream (λ (o : Option Outgoing) (xs : Slots Outgoing). Answers (refusal_at o is_closed no_more) c.close.result) c.self.view_is refl c.close.ensures.refuses
