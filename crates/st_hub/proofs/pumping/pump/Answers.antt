use Rattle.std.proofs.Common.{map, arith, inl, inr, ◌∙◌}
use Rattle.std.proofs.lemmas.Bool.{cases_eq}
use Rattle.std.proofs.lemmas.List.{length-map}
use Rattle.st_hub.specs.Inside.{inlet_of, outlet_of, known_of, room_of, flow_of}
use Rattle.st_hub.proofs.StepTies.{flows_none, flows_join, steps_kept}
use Rattle.st_hub.proofs.RingSteps.{had_memory, grow_none, grow_join, fill_none, fill_join, tried_on, tried_open, read_on, read_open}
use Rattle.st_hub.proofs.pumping.pump.Goals as goal

pub loop-place-init : goal.loop-place-init
loop-place-init g c = record {
  lanes = c.requires;
  flows = flows_none _;
  grows = (grow_none _, fill_none _);
  writers = λ s j ls. absurd (omega (arith, ls));
  readers = λ s ls. absurd (omega (arith, ls));
}

pub returns-in-NoMemory : goal.returns-in-NoMemory
returns-in-NoMemory g c = record {
  lanes = c.pump_stream.ensures.lanes;
  flows = flows_join _ _ _ c.loop-place.invariant.flows c.pump_stream.ensures.flows;
  tried = λ had. absurd had;
}

pub loop-place-preserved : goal.loop-place-preserved
loop-place-preserved g c =
    let i = c.loop-place.invariant in
    let p = c.pump_stream.ensures in
    let had = had_memory c.pump_stream.result c.in_default.not-NoMemory in
    let now = c.loop-place in
    let b = flow_of now.core now.writes.items now.reads.items in
    let k = steps_kept i.flows.0 _ _ (length-map _ inlet_of ∙ c.requires.0.0) (length-map _ outlet_of ∙ c.requires.1.0) i.flows.1 in
    record {
      lanes = p.lanes;
      flows = flows_join _ _ _ i.flows p.flows;
      grows = (grow_join _ _ _ i.grows.0 p.grows.0, fill_join _ _ _ i.grows.1 p.grows.1);
      writers = λ s j ls lj on. elim (cases_eq s now.place) [
        | inl same ↦ tried_open _ b _ _ (map known_of now.writes.items) s now.place j same i.flows k.rises i.grows.0 on (λ there. p.tried had there j lj)
        | inr ne ↦ tried_on _ _ _ _ s j p.flows (i.writers s j (omega (arith, ls, ne)) lj on)
      ];
      readers = λ s ls on. elim (cases_eq s now.place) [
        | inl same ↦ read_open _ b _ _ (map room_of now.reads.items) s now.place same i.flows k.rises i.grows.1 on (p.read had)
        | inr ne ↦ read_on _ _ _ _ s p.flows (i.readers s (omega (arith, ls, ne)) on)
      ];
    }

pub returns : goal.returns
returns g c =
    let i = c.loop-place.invariant in
    let e = c.loop-place-test.false in
    record {
      lanes = i.lanes;
      flows = i.flows;
      tried = λ had. record {
        writers = λ s j ls lj on. i.writers s j (omega (arith, ls, e)) lj on;
        readers = λ s ls on. i.readers s (omega (arith, ls, e)) on;
      };
    }
