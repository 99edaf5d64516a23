use Rattle.std.proofs.Common.{◌<◌, length, ◌∙◌, arith, length-set}
use Rattle.st_hub.specs.Inside.{IsLane}
use Rattle.st_hub.proofs.Lists.{each_set, found_at}
use Rattle.st_hub.proofs.Handings.{handed_lane, handed_out, found_writer}
use Rattle.st_hub.proofs.lanes.writer.Goals as goal

pub hand_out-requires : goal.hand_out-requires
hand_out-requires g c =
    let xs = c.args.writes.now.items in
    let room : c.args.ring < length xs = omega (arith, c.requires.0.0, c.requires.1) in
    (c.requires.0.1 c.args.ring c.index_mut-lane.result.now (found_at xs c.args.ring _ room c.index_mut-lane.ensures.value)).ours

pub returns-clause-lanes : goal.returns-clause-lanes
returns-clause-lanes g c =
    let xs = c.args.writes.now.items in
    let r = c.args.ring in
    let x = c.index_mut-lane.result.now in
    let room : r < length xs = omega (arith, c.requires.0.0, c.requires.1) in
    let mine = c.requires.0.1 r x (found_at xs r x room c.index_mut-lane.ensures.value) in
    let left = c.hand_out.ensures.left in
    (length-set xs r _ ∙ c.requires.0.0, each_set (IsLane g.N.HubName.write_ring) xs r _ c.requires.0.1 (handed_lane g.N.HubName.write_ring r x _ mine left.0 left.1 left.2))

pub returns-clause-found : goal.returns-clause-found
returns-clause-found g c =
    let xs = c.args.writes.now.items in
    let r = c.args.ring in
    let x = c.index_mut-lane.result.now in
    let room : r < length xs = omega (arith, c.requires.0.0, c.requires.1) in
    let at = found_at xs r x room c.index_mut-lane.ensures.value in
    found_writer _ r xs x at (c.requires.0.1 r x at).number c.hand_out.ensures.found c.hand_out.ensures.fresh

pub returns-clause-out : goal.returns-clause-out
returns-clause-out g c =
    let xs = c.args.writes.now.items in
    let r = c.args.ring in
    let x = c.index_mut-lane.result.now in
    let room : r < length xs = omega (arith, c.requires.0.0, c.requires.1) in
    let left = c.hand_out.ensures.left in
    handed_out xs r x _ (found_at xs r x room c.index_mut-lane.ensures.value) left.0 left.1
