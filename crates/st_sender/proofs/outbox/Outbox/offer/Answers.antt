use Rattle.std.proofs.Common.{arith, refl}
use Rattle.st_sender.specs.Accepting.{after_offer}
use Rattle.st_sender.specs.Lanes.{on_out}
use Rattle.st_sender.specs.Refusals.{refusal_at, is_closed, too_much, Answers, all_offered}
use Rattle.st_sender.specs.Sending.{Outgoing}
use Rattle.st_streams.specs.Slots.{Slots}
use Rattle.std.specs.declared.option.Option.{Option}
use Rattle.st_sender.proofs.Seen.{on_ok, on_err, either_way, seen_changed, seen_same, refused_as, kept, unchanged}
use Rattle.st_sender.proofs.outbox.Outbox.offer.Goals as goal

pub invariant_of-self : goal.invariant_of-self
invariant_of-self g c =
    let h = either_way c.offer.result
    (kept c.self.inside.streams.items c.offer.new.streams.items c.self.inside.flights.items c.args.stream (on_out (after_offer c.args.amount)) (λ l. refl) (λ l. (omega arith, omega arith)) c.self.invariant.0 c.self.invariant.1)
    (unchanged c.self.inside.streams.items c.offer.new.streams.items c.self.inside.flights.items c.self.invariant.0 c.self.invariant.1)
    c.offer.ensures.offers c.offer.ensures.unchanged in
    (h.0, h.1, c.self.invariant.2)

pub returns-clause-offers : goal.returns-clause-offers
returns-clause-offers g c =
    on_ok c.offer.result (seen_changed _ _ c.self.inside.streams.items c.offer.new.streams.items c.args.stream (after_offer c.args.amount) c.self.view_is refl) c.offer.ensures.offers

pub returns-clause-unchanged : goal.returns-clause-unchanged
returns-clause-unchanged g c = on_err c.offer.result (seen_same _ _ c.self.inside.streams.items c.offer.new.streams.items c.self.view_is refl) c.offer.ensures.unchanged

pub returns-clause-refuses : goal.returns-clause-refuses
returns-clause-refuses g c =
    refused_as _ _ c.self.inside.streams.items c.args.stream (λ (o : Option Outgoing) (xs : Slots Outgoing). Answers (refusal_at o is_closed (too_much (all_offered xs) c.args.amount)) c.offer.result) c.self.view_is refl c.offer.ensures.refuses
