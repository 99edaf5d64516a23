use Rattle.std.proofs.Common.{◌+◌, ◌*◌, ◌<◌, map, length, ◌∙◌, arith, length-set}
use Rattle.std.proofs.lemmas.List.{length-map}
use Rattle.st_hub.specs.Inside.{inlet_of, known_of, IsLane}
use Rattle.st_hub.proofs.Lists.{each_set, found_at}
use Rattle.st_hub.proofs.Tries.{lane_kept, took}
use Rattle.st_hub.proofs.RingSteps.{grow_set, stops_here}
use Rattle.st_hub.proofs.pumping.take_one.Goals as goal

pub take_first-requires : goal.take_first-requires
take_first-requires g c =
    let xs = c.args.writes.now.items in
    let r = 8 * c.args.place + c.args.writer in
    let room : r < length xs = omega (arith, c.requires.0.0, c.requires.1, c.requires.2) in
    (c.requires.0.1 r _ (found_at xs r _ room c.index_mut-lane.ensures.value)).over

pub returns-clause-lanes : goal.returns-clause-lanes
returns-clause-lanes g c =
    let xs = c.args.writes.now.items in
    let r = 8 * c.args.place + c.args.writer in
    let x = c.index_mut-lane.result.now in
    let ring = g.N.HubName.write_ring in
    let room : r < length xs = omega (arith, c.requires.0.0, c.requires.1, c.requires.2) in
    let mine = c.requires.0.1 r x (found_at xs r x room c.index_mut-lane.ensures.value) in
    let same = c.take_first.ensures.same in
    (length-set xs r _ ∙ c.requires.0.0, each_set (IsLane ring) xs r _ c.requires.0.1 (lane_kept ring r x _ mine same.0 same.1 c.take_first.ensures.over))

pub returns-clause-flows : goal.returns-clause-flows
returns-clause-flows g c outlets =
    let xs = c.args.writes.now.items in
    let r = 8 * c.args.place + c.args.writer in
    let x = c.index_mut-lane.result.now in
    let room : r < length xs = omega (arith, c.requires.0.0, c.requires.1, c.requires.2) in
    took c.take_first.result c.is_last-last.result c.args.place c.args.writer _ _ xs x _ outlets c.requires.1 c.requires.2 c.requires.0.0 (length-map xs inlet_of ∙ c.requires.0.0)
    (found_at xs r x room c.index_mut-lane.ensures.value) c.take_first.ensures.same.1 c.is_last-last.ensures c.take_first.ensures.after

pub returns-clause-grows : goal.returns-clause-grows
returns-clause-grows g c =
    let xs = c.args.writes.now.items in
    let r = 8 * c.args.place + c.args.writer in
    let x = c.index_mut-lane.result.now in
    let room : r < length xs = omega (arith, c.requires.0.0, c.requires.1, c.requires.2) in
    let known : r < length (map known_of xs) = omega (arith, length-map xs known_of, room) in
    let taken : r < length (map inlet_of xs) = omega (arith, length-map xs inlet_of, room) in
    grow_set xs r x c.take_first.new.lane known taken (found_at xs r x room c.index_mut-lane.ensures.value) c.take_first.ensures.grows

pub returns-clause-stops : goal.returns-clause-stops
returns-clause-stops g c =
    let xs = c.args.writes.now.items in
    let r = 8 * c.args.place + c.args.writer in
    let x = c.index_mut-lane.result.now in
    let room : r < length xs = omega (arith, c.requires.0.0, c.requires.1, c.requires.2) in
    let known : r < length (map known_of xs) = omega (arith, length-map xs known_of, room) in
    let taken : r < length (map inlet_of xs) = omega (arith, length-map xs inlet_of, room) in
    stops_here (c.args.place + 1) c.take_first.result c.take_first.new.core xs r x c.take_first.new.lane known taken (found_at xs r x room c.index_mut-lane.ensures.value) c.take_first.ensures.stops
