use Rattle.std.proofs.Common.{◌+◌, ◌<◌, map, length, ◌∙◌, arith, length-set}
use Rattle.std.proofs.lemmas.List.{length-map}
use Rattle.st_hub.specs.Inside.{outlet_of, room_of, IsReadLane}
use Rattle.st_hub.proofs.Lists.{each_set, found_at}
use Rattle.st_hub.proofs.Tries.{read_lane_kept, gave}
use Rattle.st_hub.proofs.RingSteps.{fill_set, stops_giving_here}
use Rattle.st_hub.proofs.pumping.give_one.Goals as goal

pub give_first-requires : goal.give_first-requires
give_first-requires g c =
    let xs = c.args.reads.now.items in
    let s = c.args.place in
    let room : s < length xs = omega (arith, c.requires.0.0, c.requires.1) in
    (c.requires.0.1 s _ (found_at xs s _ room c.index_mut-lane.ensures.value)).over

pub returns-clause-lanes : goal.returns-clause-lanes
returns-clause-lanes g c =
    let xs = c.args.reads.now.items in
    let s = c.args.place in
    let x = c.index_mut-lane.result.now in
    let ring = g.N.HubName.read_ring in
    let room : s < length xs = omega (arith, c.requires.0.0, c.requires.1) in
    let mine = c.requires.0.1 s x (found_at xs s x room c.index_mut-lane.ensures.value) in
    let same = c.give_first.ensures.same in
    (length-set xs s _ ∙ c.requires.0.0, each_set (IsReadLane ring) xs s _ c.requires.0.1 (read_lane_kept ring s x _ mine same.0 same.1 c.give_first.ensures.over))

pub returns-clause-flows : goal.returns-clause-flows
returns-clause-flows g c inlets =
    let xs = c.args.reads.now.items in
    let s = c.args.place in
    let x = c.index_mut-lane.result.now in
    let room : s < length xs = omega (arith, c.requires.0.0, c.requires.1) in
    gave c.give_first.result s _ _ inlets xs x _ c.requires.1 (found_at xs s x room c.index_mut-lane.ensures.value) c.give_first.ensures.same.1 c.give_first.ensures.after

pub returns-clause-fills : goal.returns-clause-fills
returns-clause-fills g c =
    let xs = c.args.reads.now.items in
    let s = c.args.place in
    let x = c.index_mut-lane.result.now in
    let room : s < length xs = omega (arith, c.requires.0.0, c.requires.1) in
    let free : s < length (map room_of xs) = omega (arith, length-map xs room_of, room) in
    let put : s < length (map outlet_of xs) = omega (arith, length-map xs outlet_of, room) in
    fill_set xs s x c.give_first.new.lane free put (found_at xs s x room c.index_mut-lane.ensures.value) c.give_first.ensures.fills

pub returns-clause-stops : goal.returns-clause-stops
returns-clause-stops g c =
    let xs = c.args.reads.now.items in
    let s = c.args.place in
    let x = c.index_mut-lane.result.now in
    let room : s < length xs = omega (arith, c.requires.0.0, c.requires.1) in
    let free : s < length (map room_of xs) = omega (arith, length-map xs room_of, room) in
    let put : s < length (map outlet_of xs) = omega (arith, length-map xs outlet_of, room) in
    stops_giving_here (c.args.place + 1) c.args.core.now c.give_first.result c.give_first.new.core xs s x c.give_first.new.lane free put (found_at xs s x room c.index_mut-lane.ensures.value) c.give_first.ensures.stops
