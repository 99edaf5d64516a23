use Rattle.std.proofs.lemmas.Grind.{common_steps}
use Rattle.std.proofs.Common.{◌≡◌, ◌+◌, ℕ, Bool, subst, sym, refl, ◌∙◌, arith, true, false, inl}
use Rattle.st_end.specs.Calls.{has_stream}
use Rattle.st_hub.specs.Trying.{Beside}
use Rattle.st_hub.specs.Handing.{IsLeft, TakesLeft}
use Rattle.st_hub.specs.Inside.{flow_of}
use Rattle.st_hub.proofs.EndEvents.{keeps_same}
use Rattle.st_hub.proofs.Handings.{ends_sound}
use Rattle.st_streams.proofs.StreamNumbers.{some_stream, stream_is}
use Rattle.st_hub.proofs.streams.Streams.take_stream.Goals as goal

pub unwrap-stream-requires : goal.unwrap-stream-requires
unwrap-stream-requires g c =
    let f = c.in_ok-place.ensures.found in
    some_stream c.new.result _ c.new.ensures (omega arith, omega (arith, f.0))

pub ends-writer-requires-clause-held : goal.ends-writer-requires-clause-held
ends-writer-requires-clause-held g c =
    let f = c.in_ok-place.ensures.found in
    rw c.from.ensures ((c.self.invariant.paired c.in_ok-place.place f.0).both ∙ f.2, f.2)

pub invariant_of-self-2 : goal.invariant_of-self-2
invariant_of-self-2 g c =
    let v = c.self.invariant in
    let f = c.in_ok-place.ensures.found in
    let e = c.ends-writer.ensures in
    ends_sound _ _ _ _ c.self.inside.writes.items _ c.self.inside.reads.items _ c.from.result (omega (arith, f.0, c.from.ensures)) (keeps_same c.self.inside.core) (λ j ne at. at)
    (subst (λ n. has_stream c.self.inside.core (n + 1) ≡ true) (sym c.from.ensures) f.1) e.lanes.0 e.lanes.1 e.out.0 e.out.1 v

both_ways : (b : Bool) → b ≡ true → b ≡ false → ⊥
both_ways b on off = absurd (cc)

pub returns-clause-taken : goal.returns-clause-taken
returns-clause-taken g c =
    let p = c.in_ok-place.place in
    let is : c.from.result ≡ p = c.from.ensures in
    let f = c.in_ok-place.ensures.found in
    let e = c.ends-writer.ensures in
    let paired = c.self.invariant.paired p f.0 in
    let number = stream_is c.new.result (p + 1) c.unwrap-stream.result c.unwrap-stream.ensures c.new.ensures in
    let b = flow_of c.self.inside.core c.ends-writer.new.writes.items c.ends-writer.new.reads.items in
    subst (λ (a : Beside _). (s : ℕ) × TakesLeft a.flow b c.unwrap-stream.result c.ends-writer.result.0 c.ends-writer.result.1 s) c.self.view_is (
      c.from.result,
      record {
        left = subst (λ n. IsLeft (flow_of c.self.inside.core c.self.inside.writes.items c.self.inside.reads.items) n) (sym is) (record { peers = λ own. both_ways _ (paired.own own (inl f.1)) f.2; is_open = f.1; writer = paired.both ∙ f.2; reader = f.2 });
        lowest = λ t lt. c.in_ok-place.ensures.lowest t (omega (arith, is));
        same = refl;
        handed = record {
          place = omega (arith, f.0, is);
          number_is = omega (arith, is, number.0);
          fresh_writer = e.fresh.0;
          fresh_reader = e.fresh.1;
          after = λ i. record { core = c.self.inside.core; inlets = e.out.0 i; outlets = e.out.1 i };
        };
      },
    )

pub first_left-requires : goal.first_left-requires
first_left-requires g c = grind (arith, common_steps)

pub invariant_of-self : goal.invariant_of-self
invariant_of-self g c = grind (arith, common_steps)

pub returns-in_err-place-clause-taken : goal.returns-in_err-place-clause-taken
returns-in_err-place-clause-taken g c = grind (arith, common_steps)

pub returns-in_err-place-clause-none : goal.returns-in_err-place-clause-none
returns-in_err-place-clause-none g c = grind (arith, common_steps)

pub ends-writer-requires-clause-lanes : goal.ends-writer-requires-clause-lanes
ends-writer-requires-clause-lanes g c = grind (arith, common_steps)

pub overflow_add-place : goal.overflow_add-place
overflow_add-place g c = grind (arith, common_steps)
