use Rattle.std.proofs.lemmas.Grind.{common_steps}
use Rattle.std.proofs.Common.{◌≡◌, ◌+◌, ◌*◌, ◌-◌, ◌<◌, ℕ, false, List, map, subst, arith}
use Rattle.st_hub.specs.Trying.{Beside}
use Rattle.st_hub.specs.Flow.{Inlet, inlet_at, writer_out}
use Rattle.st_hub.specs.Handing.{AllOut, IsTooLate, IsFreshWriter, AddsWriter, RefusesWriter}
use Rattle.st_hub.specs.Inside.{inlet_of, outlet_of, flow_of}
use Rattle.st_hub.specs.declared.error.HubError.TheVariants.{EightWriters, WriterTooLate}
use Rattle.st_hub.proofs.Handings.{further_sound}
use Rattle.st_hub.proofs.streams.Streams.add_writer.Goals as goal

pub returns-in_default-clause-refused : goal.returns-in_default-clause-refused
returns-in_default-clause-refused g c =
    let xs = map inlet_of c.self.inside.writes.items in
    let none = subst (λ n. AllOut xs (n - 1)) c.place-place.ensures.place c.in_default.ensures.none in
    (c.self.view_is, subst (λ (f : Beside _). RefusesWriter f.flow c.args.stream EightWriters) c.self.view_is (c.if-not-is_stream.ensures, none))

not_all : {A : Type 0} (xs : List (Inlet A)) (s j : ℕ) → 0 < j → j < 8 → (inlet_at xs (8 * s + j)).out ≡ false → ¬ (AllOut xs s)
not_all xs s j above below off all = absurd (let on = all j above below in cc)

pub returns-then-is_too_late-clause-refused : goal.returns-then-is_too_late-clause-refused
returns-then-is_too_late-clause-refused g c =
    let xs = map inlet_of c.self.inside.writes.items in
    let f = c.in-Some.ensures.found in
    let p = c.place-place.result - 1 in
    let all = subst (λ n. ¬ (AllOut xs (n - 1))) c.place-place.ensures.place (not_all xs p c.in-Some.further f.0 f.1 f.2) in
    let late = subst (λ n. IsTooLate xs (n - 1)) c.place-place.ensures.place c.if-is_too_late.ensures in
    (c.self.view_is, subst (λ (f : Beside _). RefusesWriter f.flow c.args.stream WriterTooLate) c.self.view_is (c.if-not-is_stream.ensures, all, late))

pub invariant_of-self-2 : goal.invariant_of-self-2
invariant_of-self-2 g c =
    let f = c.in-Some.ensures.found in
    further_sound _ _ _ c.self.inside.writes.items _ c.self.inside.reads.items (c.place-place.result - 1) c.in-Some.further f.0 f.1 c.further_writer.ensures.lanes c.further_writer.ensures.out c.self.invariant

pub returns-clause-added : goal.returns-clause-added
returns-clause-added g c =
    let i = c.self.inside in
    let f = c.in-Some.ensures.found in
    let e = c.further_writer.ensures in
    let a = flow_of i.core i.writes.items i.reads.items in
    let b = flow_of i.core c.further_writer.new.writes.items i.reads.items in
    let w = c.further_writer.result in
    let j = c.in-Some.further in
    let p = c.place-place.result - 1 in
    let after : b ≡ record a { inlets = writer_out a.inlets (8 * p + j) } = λ k. record { core = i.core; inlets = e.out k; outlets = map outlet_of i.reads.items } in
    subst (λ (x : Beside _). (j : ℕ) × AddsWriter x.flow b c.args.stream w j) c.self.view_is (
      j,
      record {
        is_open = c.if-not-is_stream.ensures;
        further = (f.0, f.1);
        unused = subst (λ n. (inlet_at a.inlets (8 * (n - 1) + j)).out ≡ false) c.place-place.ensures.place f.2;
        in_time = subst (λ n. ¬ (IsTooLate a.inlets (n - 1))) c.place-place.ensures.place c.if-is_too_late.ensures;
        fresh = subst (λ n. IsFreshWriter (8 * (n - 1) + j) w) c.place-place.ensures.place e.fresh;
        after = subst (λ n. b ≡ record a { inlets = writer_out a.inlets (8 * (n - 1) + j) }) c.place-place.ensures.place after;
      },
    )

pub overflow_sub-place : goal.overflow_sub-place
overflow_sub-place g c = omega (arith, c.if-not-is_stream.ensures.0, c.place-place.ensures.place)

pub further_writer-requires-clause-lanes : goal.further_writer-requires-clause-lanes
further_writer-requires-clause-lanes g c =
    let s = c.if-not-is_stream.ensures in
    let f = c.in-Some.ensures.found in
    (c.self.invariant.lanes, omega (arith, s.0, s.1, f.1, c.place-place.ensures.place))

pub further_writer-requires-clause-held : goal.further_writer-requires-clause-held
further_writer-requires-clause-held g c = c.in-Some.ensures.found.2

pub invariant_of-self : goal.invariant_of-self
invariant_of-self g c = c.self.invariant

pub returns-then-not-is_stream-clause-refused : goal.returns-then-not-is_stream-clause-refused
returns-then-not-is_stream-clause-refused g c = grind (arith, common_steps)

pub first_unused-requires : goal.first_unused-requires
first_unused-requires g c = grind (arith, common_steps)

pub invariant_of-self-in_default : goal.invariant_of-self-in_default
invariant_of-self-in_default g c = grind (arith, common_steps)

pub is_too_late-requires : goal.is_too_late-requires
is_too_late-requires g c = grind (arith, common_steps)

pub invariant_of-self-then-is_too_late : goal.invariant_of-self-then-is_too_late
invariant_of-self-then-is_too_late g c = grind (arith, common_steps)

pub overflow_mul-place : goal.overflow_mul-place
overflow_mul-place g c = grind (arith, common_steps)

pub overflow_add-place : goal.overflow_add-place
overflow_add-place g c = grind (arith, common_steps)
