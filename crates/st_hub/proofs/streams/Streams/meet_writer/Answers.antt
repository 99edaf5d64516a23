use Rattle.std.proofs.Common.{◌≡◌, ◌<◌, ◌++◌, ℕ, map, subst, refl, ap, ◌∙◌}
use Rattle.st_hub.specs.Flow.{inlet_at, Tied}
use Rattle.st_hub.specs.Trying.{Beside, known_at}
use Rattle.st_hub.specs.Inside.{outlet_of, stands_at, flow_of}
use Rattle.st_hub.proofs.Ties.{lanes_sound}
use Rattle.st_hub.proofs.streams.Streams.meet_writer.Goals as goal

pub invariant_of-self : goal.invariant_of-self
invariant_of-self g c =
    let v = c.self.invariant in
    let m = c.meet_writer.ensures.lanes in
    lanes_sound _ _ _ c.self.inside.writes.items _ c.self.inside.reads.items _ m.0 v.read_lanes m.1 refl v

pub returns : goal.returns
returns g c =
    let v = c.self.invariant in
    let m = c.meet_writer.ensures in
    let i = c.self.inside in
    let flow : flow_of i.core c.meet_writer.new.writes.items i.reads.items ≡ flow_of i.core i.writes.items i.reads.items = λ k. record { core = i.core; inlets = m.lanes.1 k; outlets = map outlet_of i.reads.items } in
    record {
      same = (flow ∙ ap (λ (a : Beside _). a.flow) c.self.view_is, ap (λ (a : Beside _). a.room) c.self.view_is);
      writer = m.writer;
      count = m.count;
      others = λ r ne. m.others r ne ∙ ap (λ (a : Beside _). known_at a.known r) c.self.view_is;
      whole = subst (λ (a : Beside _). (inlet_at a.flow.inlets c.args.writer.now.ring).taken ++ stands_at c.meet_writer.new.writes.items c.args.writer.now.ring ≡ c.args.writer.now.items) c.self.view_is m.whole;
      merged = subst (λ (a : Beside _). (s : ℕ) → s < 64 → Tied a.flow s) c.self.view_is v.tied.each;
    }
