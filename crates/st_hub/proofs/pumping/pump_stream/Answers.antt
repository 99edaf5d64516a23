use Rattle.std.proofs.Common.{map, refl}
use Rattle.st_hub.specs.Inside.{inlet_of, outlet_of}
use Rattle.st_hub.proofs.StepTies.{flows_none, flows_join}
use Rattle.st_hub.proofs.RingSteps.{had_memory, grow_none, fill_none, tried_on, read_before}
use Rattle.st_hub.proofs.pumping.pump_stream.Goals as goal

pub returns-then-not-has_stream-clause-flows : goal.returns-then-not-has_stream-clause-flows
returns-then-not-has_stream-clause-flows g c = flows_none _

pub returns-then-not-has_stream-clause-grows : goal.returns-then-not-has_stream-clause-grows
returns-then-not-has_stream-clause-grows g c = (grow_none _, fill_none _)

pub returns-in-NoMemory : goal.returns-in-NoMemory
returns-in-NoMemory g c = record {
  lanes = (c.take_stream.ensures.lanes, c.requires.1);
  flows = c.take_stream.ensures.flows (map outlet_of c.args.reads.now.items);
  grows = (c.take_stream.ensures.grows, fill_none _);
  tried = λ had. absurd had;
  read = λ had. absurd had;
}

pub returns : goal.returns
returns g c =
    let t = c.take_stream.ensures in
    let v = c.give_stream.ensures in
    let taking = t.flows (map outlet_of c.args.reads.now.items) in
    let giving = v.flows (map inlet_of c.take_stream.new.writes.items) in
    record {
      lanes = (t.lanes, v.lanes);
      flows = flows_join _ _ _ taking giving;
      grows = (t.grows, v.fills);
      tried = λ had on j lj. tried_on _ _ _ _ _ j giving (t.tried (had_memory _ c.in_default.not-NoMemory) j lj (map outlet_of c.args.reads.now.items));
      read = λ had on. read_before _ _ _ _ _ taking refl (v.tried had (map inlet_of c.take_stream.new.writes.items));
    }
