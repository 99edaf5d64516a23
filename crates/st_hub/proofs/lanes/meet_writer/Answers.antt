use Rattle.std.proofs.Common.{◌<◌, ◌++◌, map, length, ◌∙◌, ap, sym, refl, arith, length-set}
use Rattle.std.proofs.lemmas.List.{length-map}
use Rattle.st_queues.specs.WriteEnds.{known}
use Rattle.st_hub.specs.Flow.{Inlet, inlet_at, no_inlet, has_end}
use Rattle.st_hub.specs.Inside.{inlet_of, known_of, IsLane}
use Rattle.st_hub.proofs.Lists.{each_set, found_at, at_map}
use Rattle.st_hub.proofs.Tries.{lane_kept, taken_same}
use Rattle.st_hub.proofs.RingSteps.{new_known, other_known}
use Rattle.st_hub.proofs.lanes.meet_writer.Goals as goal

pub meet-requires : goal.meet-requires
meet-requires g c =
    let xs = c.args.writes.now.items in
    let r = c.ring.result in
    let room : r < length xs = omega (arith, c.requires.0, c.ring.ensures.1) in
    let mine = c.requires.1 r _ (found_at xs r _ room c.index_mut-lane.ensures.value) in
    (mine.ours.1, sym c.ring.ensures.0 ∙ sym mine.number)

pub returns-clause-lanes : goal.returns-clause-lanes
returns-clause-lanes g c =
    let xs = c.args.writes.now.items in
    let r = c.ring.result in
    let x = c.index_mut-lane.result.now in
    let ring = g.N.HubName.write_ring in
    let room : r < length xs = omega (arith, c.requires.0, c.ring.ensures.1) in
    let at = found_at xs r x room c.index_mut-lane.ensures.value in
    let mine = c.requires.1 r x at in
    let same = c.meet.ensures.same in
    ((length-set xs r _ ∙ c.requires.0, each_set (IsLane ring) xs r _ c.requires.1 (lane_kept ring r x _ mine same.0 refl (mine.over ∙ sym (ap has_end same.1)))), taken_same xs r x _ at refl same.1)

pub returns-clause-whole : goal.returns-clause-whole
returns-clause-whole g c =
    let xs = c.args.writes.now.items in
    let r = c.ring.result in
    let x = c.index_mut-lane.result.now in
    let room : r < length xs = omega (arith, c.requires.0, c.ring.ensures.1) in
    let at = found_at xs r x room c.index_mut-lane.ensures.value in
    let m = c.meet.ensures in
    let wide : r < length (map known_of xs) = omega (arith, length-map xs known_of, room) in
    rw (← c.ring.ensures.0) (
    ap (λ l. (inlet_at (map inlet_of xs) r).taken ++ l) (new_known xs r _ wide) ∙ ap (λ (z : Inlet _). z.taken ++ known c.meet.new.self) (at_map inlet_of xs r x no_inlet at) ∙ ap (λ l. l ++ known c.meet.new.self) (sym m.same.1) ∙ m.whole ∙ m.writer.1
    )

pub returns-clause-count : goal.returns-clause-count
returns-clause-count g c =
    let xs = c.args.writes.now.items in
    let r = c.ring.result in
    let room : r < length xs = omega (arith, c.requires.0, c.ring.ensures.1) in
    let wide : r < length (map known_of xs) = omega (arith, length-map xs known_of, room) in
    rw (← c.ring.ensures.0) (c.meet.ensures.count ∙ ap length (sym (new_known xs r _ wide)))

pub returns-clause-others : goal.returns-clause-others
returns-clause-others g c r ne = other_known c.args.writes.now.items c.ring.result r _ (λ same. ne (same ∙ c.ring.ensures.0))
