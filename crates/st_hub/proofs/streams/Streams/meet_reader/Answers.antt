use Rattle.std.proofs.Common.{◌≡◌, ◌++◌, map, subst, refl, ap, ◌∙◌}
use Rattle.st_hub.specs.Flow.{outlet_at}
use Rattle.st_hub.specs.Trying.{Beside}
use Rattle.st_hub.specs.Inside.{inlet_of, flow_of}
use Rattle.st_hub.proofs.Ties.{lanes_sound}
use Rattle.st_hub.proofs.streams.Streams.meet_reader.Goals as goal

pub invariant_of-self : goal.invariant_of-self
invariant_of-self g c =
    let v = c.self.invariant in
    let m = c.meet_reader.ensures.lanes in
    lanes_sound _ _ _ c.self.inside.writes.items _ c.self.inside.reads.items _ v.lanes m.0 refl m.1 v

pub returns : goal.returns
returns g c =
    let m = c.meet_reader.ensures in
    let i = c.self.inside in
    let flow : flow_of i.core i.writes.items c.meet_reader.new.reads.items ≡ flow_of i.core i.writes.items i.reads.items = λ k. record { core = i.core; inlets = map inlet_of i.writes.items; outlets = m.lanes.1 k } in
    record {
      same = (flow ∙ ap (λ (a : Beside _). a.flow) c.self.view_is, ap (λ (a : Beside _). a.known) c.self.view_is);
      reader = m.reader;
      count = m.count;
      whole = subst (λ (a : Beside _). c.args.reader.now.items ++ c.meet_reader.new.reader.known ≡ (outlet_at a.flow.outlets c.args.reader.now.stream).put) c.self.view_is m.whole;
    }
