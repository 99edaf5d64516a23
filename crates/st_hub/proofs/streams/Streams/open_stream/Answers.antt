use Rattle.std.proofs.lemmas.Grind.{common_steps}
use Rattle.std.proofs.Common.{◌≡◌, ◌≢◌, ◌+◌, ◌-◌, ℕ, subst, sym, arith, None, Ok}
use Rattle.st_sender.specs.Sending.{outgoing_at}
use Rattle.st_end.specs.Calls as calls
use Rattle.st_end.specs.Calls.{OrWants, has_stream}
use Rattle.st_hub.specs.Trying.{Beside}
use Rattle.st_hub.specs.Handing.{IsKnown, HandsOut}
use Rattle.st_hub.specs.Inside.{flow_of, IsSound}
use Rattle.st_hub.specs.Keeping.{Keeps}
use Rattle.st_hub.proofs.EndEvents.{keeps_same}
use Rattle.st_hub.proofs.CoreCalls.{opened_ok}
use Rattle.st_hub.proofs.Handings.{opened_on, opened_others, closed_held, ends_sound}
use Rattle.st_hub.proofs.streams.Streams.open_stream.Goals as goal

pub returns-in_err-stream-clause-keeps : goal.returns-in_err-stream-clause-keeps
returns-in_err-stream-clause-keeps g c =
    subst (λ (f : Beside _). Keeps 0 f.flow.core c.open_stream.new.self) c.self.view_is (subst (Keeps 0 c.self.inside.core) (sym c.in_err-stream.ensures.unchanged) (keeps_same c.self.inside.core))

pub overflow_sub-place : goal.overflow_sub-place
overflow_sub-place g c =
    let n = (opened_ok _ _ c.in_ok-stream.stream c.in_ok-stream.ensures.answers).number c.self.invariant.parity in
    omega (arith, n.0, c.place-place.ensures.place)

pub ends-writer-requires-clause-lanes : goal.ends-writer-requires-clause-lanes
ends-writer-requires-clause-lanes g c =
    let v = c.self.invariant in
    let n = (opened_ok _ _ c.in_ok-stream.stream c.in_ok-stream.ensures.answers).number v.parity in
    (v.lanes, v.read_lanes, omega (arith, n.0, n.1, c.place-place.ensures.place))

pub ends-writer-requires-clause-held : goal.ends-writer-requires-clause-held
ends-writer-requires-clause-held g c =
    let v = c.self.invariant in
    let o = opened_ok _ _ c.in_ok-stream.stream c.in_ok-stream.ensures.answers in
    let n = o.number v.parity in
    let s = c.place-place.result - 1 in
    let is : c.in_ok-stream.stream ≡ s + 1 = omega (arith, n.0, c.place-place.ensures.place) in
    closed_held (flow_of c.self.inside.core c.self.inside.writes.items c.self.inside.reads.items) s (v.paired s (omega (arith, n.0, n.1, c.place-place.ensures.place))) (subst (λ k. outgoing_at c.self.inside.core.sending k ≡ None) is o.none)

pub invariant_of-self-2 : goal.invariant_of-self-2
invariant_of-self-2 g c =
    let v = c.self.invariant in
    let o = opened_ok _ _ c.in_ok-stream.stream c.in_ok-stream.ensures.answers in
    let n = o.number v.parity in
    let s = c.place-place.result - 1 in
    let is : c.in_ok-stream.stream ≡ s + 1 = omega (arith, n.0, c.place-place.ensures.place) in
    let e = c.ends-writer.ensures in
    let others = subst (λ n. (j : ℕ) → j ≢ n → IsKnown c.open_stream.new.self j → IsKnown c.self.inside.core j) is (opened_others _ _ _ o) in
    ends_sound _ _ _ _ c.self.inside.writes.items _ c.self.inside.reads.items _ s (omega (arith, n.0, n.1, c.place-place.ensures.place)) o.keeps others
    (subst (λ k. has_stream c.open_stream.new.self k ≡ _) is (opened_on _ _ _ o v.width n.1)) e.lanes.0 e.lanes.1 e.out.0 e.out.1 v

pub returns-clause-handed : goal.returns-clause-handed
returns-clause-handed g c =
    let o = opened_ok _ _ c.in_ok-stream.stream c.in_ok-stream.ensures.answers in
    let n = o.number c.self.invariant.parity in
    let s = c.place-place.result - 1 in
    let e = c.ends-writer.ensures in
    let b = flow_of c.open_stream.new.self c.ends-writer.new.writes.items c.ends-writer.new.reads.items in
    subst (λ (a : Beside _). (s : ℕ) × HandsOut a.flow b c.in_ok-stream.stream c.ends-writer.result.0 c.ends-writer.result.1 s) c.self.view_is (
      s,
      record {
        place = omega (arith, n.0, n.1, c.place-place.ensures.place);
        number_is = omega (arith, n.0, c.place-place.ensures.place);
        fresh_writer = e.fresh.0;
        fresh_reader = e.fresh.1;
        after = λ i. record { core = c.open_stream.new.self; inlets = e.out.0 i; outlets = e.out.1 i };
      },
    )

pub returns-clause-keeps : goal.returns-clause-keeps
returns-clause-keeps g c =
    subst (λ (f : Beside _). Keeps 0 f.flow.core c.open_stream.new.self) c.self.view_is (opened_ok _ _ c.in_ok-stream.stream c.in_ok-stream.ensures.answers).keeps

pub returns-clause-answers : goal.returns-clause-answers
returns-clause-answers g c =
    subst (λ (f : Beside _). OrWants f.flow.core (calls.open_stream f.flow.core) (Ok c.in_ok-stream.stream, c.open_stream.new.self)) c.self.view_is c.in_ok-stream.ensures.answers

pub invariant_of-self : goal.invariant_of-self
invariant_of-self g c =
    subst (λ k. IsSound g.N.HubName.write_ring g.N.HubName.read_ring k c.self.inside.writes.items c.self.inside.reads.items) (sym c.in_err-stream.ensures.unchanged) c.self.invariant

pub returns-in_err-stream-clause-answers : goal.returns-in_err-stream-clause-answers
returns-in_err-stream-clause-answers g c = grind (arith, common_steps)

pub returns-in_err-stream-clause-handed : goal.returns-in_err-stream-clause-handed
returns-in_err-stream-clause-handed g c = grind (arith, common_steps)

pub returns-in_err-stream-clause-unchanged : goal.returns-in_err-stream-clause-unchanged
returns-in_err-stream-clause-unchanged g c = grind (arith, common_steps)
