use Rattle.std.proofs.Common.{arith, refl, length}
use Rattle.st_sender.specs.Accepting.{after_write}
use Rattle.st_sender.specs.Lanes.{on_out}
use Rattle.st_sender.specs.Refusals.{refusal_at, is_closed, full, AnswersOrWants, all_accepted}
use Rattle.st_sender.specs.Sending.{Outgoing}
use Rattle.st_streams.specs.Slots.{Slots}
use Rattle.std.specs.declared.option.Option.{Option}
use Rattle.st_sender.proofs.Seen.{on_ok, on_err, either_way, seen_changed, seen_same, refused_as, kept, unchanged}
use Rattle.st_sender.proofs.outbox.Outbox.accept.Goals as goal

pub invariant_of-self : goal.invariant_of-self
invariant_of-self g c =
    let h = either_way c.accept.result
    (kept c.self.inside.streams.items c.accept.new.streams.items c.self.inside.flights.items c.args.stream (on_out (after_write c.args.bytes.now)) (λ l. refl) (λ l. (omega arith, omega arith)) c.self.invariant.0 c.self.invariant.1)
    (unchanged c.self.inside.streams.items c.accept.new.streams.items c.self.inside.flights.items c.self.invariant.0 c.self.invariant.1)
    c.accept.ensures.accepts c.accept.ensures.unchanged in
    (h.0, h.1, c.self.invariant.2)

pub returns-clause-accepts : goal.returns-clause-accepts
returns-clause-accepts g c =
    on_ok c.accept.result (seen_changed _ _ c.self.inside.streams.items c.accept.new.streams.items c.args.stream (after_write c.args.bytes.now) c.self.view_is refl) c.accept.ensures.accepts

pub returns-clause-unchanged : goal.returns-clause-unchanged
returns-clause-unchanged g c = on_err c.accept.result (seen_same _ _ c.self.inside.streams.items c.accept.new.streams.items c.self.view_is refl) c.accept.ensures.unchanged

pub returns-clause-refuses : goal.returns-clause-refuses
returns-clause-refuses g c =
    refused_as _ _ c.self.inside.streams.items c.args.stream (λ (o : Option Outgoing) (xs : Slots Outgoing). AnswersOrWants (refusal_at o is_closed (full (all_accepted xs) (length c.args.bytes.now))) c.accept.result) c.self.view_is refl c.accept.ensures.refuses
