use Rattle.std.proofs.Common.{◌<◌, length, ◌∙◌, arith, length-set}
use Rattle.st_hub.specs.Inside.{IsReadLane}
use Rattle.st_hub.proofs.Lists.{each_set, found_at}
use Rattle.st_hub.proofs.Handings.{handed_read_lane, handed_reader, found_reader}
use Rattle.st_hub.proofs.lanes.reader.Goals as goal

pub hand_out-requires : goal.hand_out-requires
hand_out-requires g c =
    let xs = c.args.reads.now.items in
    let room : c.args.place < length xs = omega (arith, c.requires.0.0, c.requires.1) in
    (c.requires.0.1 c.args.place c.index_mut-lane.result.now (found_at xs c.args.place _ room c.index_mut-lane.ensures.value)).ours

pub returns-clause-lanes : goal.returns-clause-lanes
returns-clause-lanes g c =
    let xs = c.args.reads.now.items in
    let r = c.args.place in
    let x = c.index_mut-lane.result.now in
    let room : r < length xs = omega (arith, c.requires.0.0, c.requires.1) in
    let mine = c.requires.0.1 r x (found_at xs r x room c.index_mut-lane.ensures.value) in
    let left = c.hand_out.ensures.left in
    (length-set xs r _ ∙ c.requires.0.0, each_set (IsReadLane g.N.HubName.read_ring) xs r _ c.requires.0.1 (handed_read_lane g.N.HubName.read_ring r x _ mine left.0 left.1 left.2))

pub returns-clause-found : goal.returns-clause-found
returns-clause-found g c =
    let xs = c.args.reads.now.items in
    let r = c.args.place in
    let x = c.index_mut-lane.result.now in
    let room : r < length xs = omega (arith, c.requires.0.0, c.requires.1) in
    let at = found_at xs r x room c.index_mut-lane.ensures.value in
    found_reader _ r xs x at (c.requires.0.1 r x at).number c.hand_out.ensures.found c.hand_out.ensures.fresh

pub returns-clause-out : goal.returns-clause-out
returns-clause-out g c =
    let xs = c.args.reads.now.items in
    let r = c.args.place in
    let x = c.index_mut-lane.result.now in
    let room : r < length xs = omega (arith, c.requires.0.0, c.requires.1) in
    let left = c.hand_out.ensures.left in
    handed_reader xs r x _ (found_at xs r x room c.index_mut-lane.ensures.value) left.0 left.1
