use Rattle.std.proofs.Common.{arith, refl}
use Rattle.st_sender.specs.Accepting.{after_stream_abort}
use Rattle.st_sender.specs.Lanes.{on_out}
use Rattle.st_sender.specs.Refusals.{refusal_at, is_aborted, no_more, Answers}
use Rattle.st_sender.specs.Sending.{Outgoing}
use Rattle.st_streams.specs.Slots.{Slots}
use Rattle.std.specs.declared.option.Option.{Option}
use Rattle.st_sender.proofs.Seen.{on_ok, on_err, either_way, seen_changed, seen_same, refused_as, kept, unchanged}
use Rattle.st_sender.proofs.outbox.Outbox.abort.Goals as goal

pub invariant_of-self : goal.invariant_of-self
invariant_of-self g c =
    let h = either_way c.abort.result
    (kept c.self.inside.streams.items c.abort.new.streams.items c.self.inside.flights.items c.args.stream (on_out (after_stream_abort c.args.code)) (λ l. refl) (λ l. (omega arith, omega arith)) c.self.invariant.0 c.self.invariant.1)
    (unchanged c.self.inside.streams.items c.abort.new.streams.items c.self.inside.flights.items c.self.invariant.0 c.self.invariant.1)
    c.abort.ensures.aborts c.abort.ensures.unchanged in
    (h.0, h.1, c.self.invariant.2)

pub returns-clause-aborts : goal.returns-clause-aborts
returns-clause-aborts g c =
    on_ok c.abort.result (seen_changed _ _ c.self.inside.streams.items c.abort.new.streams.items c.args.stream (after_stream_abort c.args.code) c.self.view_is refl) c.abort.ensures.aborts

pub returns-clause-unchanged : goal.returns-clause-unchanged
returns-clause-unchanged g c = on_err c.abort.result (seen_same _ _ c.self.inside.streams.items c.abort.new.streams.items c.self.view_is refl) c.abort.ensures.unchanged

pub returns-clause-refuses : goal.returns-clause-refuses
returns-clause-refuses g c =
    refused_as _ _ c.self.inside.streams.items c.args.stream (λ (o : Option Outgoing) (xs : Slots Outgoing). Answers (refusal_at o is_aborted no_more) c.abort.result) c.self.view_is refl c.abort.ensures.refuses
