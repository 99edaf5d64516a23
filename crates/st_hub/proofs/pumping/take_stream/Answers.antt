use Rattle.std.proofs.Common.{◌+◌, ◌*◌, arith, inl, inr}
use Rattle.std.proofs.lemmas.Bool.{cases_eq}
use Rattle.st_hub.specs.Inside.{taken_at, stands_at}
use Rattle.st_hub.proofs.StepTies.{flows_join}
use Rattle.st_hub.proofs.RingSteps.{had_memory, grow_join, found_from, tried_on, tried_here}
use Rattle.st_hub.proofs.pumping.take_stream.Goals as goal

pub returns-in-NoMemory : goal.returns-in-NoMemory
returns-in-NoMemory g c =
    let i = c.loop-writer.invariant in
    let t = c.take_ring.ensures in
    record {
      lanes = t.lanes;
      flows = λ outs. flows_join _ _ _ (i.flows outs) (t.flows outs);
      grows = grow_join _ _ _ i.grows t.grows;
      tried = λ had. absurd had;
    }

pub loop-writer-preserved : goal.loop-writer-preserved
loop-writer-preserved g c =
    let i = c.loop-writer.invariant in
    let t = c.take_ring.ensures in
    let w = c.loop-writer.writer in
    let s = c.args.place in
    let r = 8 * s + w in
    record {
      lanes = t.lanes;
      flows = λ outs. flows_join _ _ _ (i.flows outs) (t.flows outs);
      grows = grow_join _ _ _ i.grows t.grows;
      tried = λ j lj outs. elim (cases_eq j w) [
        | inl same ↦ tried_here _ _ _ _ j w same (flows_join _ _ _ (i.flows outs) (t.flows outs)) (found_from c.take_ring.new.core (s + 1) _ _ (taken_at c.loop-writer.writes.items r) (stands_at c.loop-writer.writes.items r) (taken_at c.take_ring.new.writes.items r) (i.grows r) (t.found (had_memory c.take_ring.result c.in_default.not-NoMemory)))
        | inr ne ↦ tried_on _ _ _ _ _ j (t.flows outs) (i.tried j (omega (arith, lj, ne)) outs)
      ];
    }

pub returns : goal.returns
returns g c =
    let i = c.loop-writer.invariant in
    record {
      lanes = i.lanes;
      flows = i.flows;
      grows = i.grows;
      tried = λ had j lj outs. i.tried j (let e = c.loop-writer-test.false in omega (arith, lj, e)) outs;
    }
