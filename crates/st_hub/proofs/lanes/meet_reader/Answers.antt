use Rattle.std.proofs.Common.{◌<◌, ◌++◌, length, ◌∙◌, ap, sym, refl, arith, length-set}
use Rattle.st_hub.specs.Flow.{Outlet, no_outlet, has_last}
use Rattle.st_hub.specs.Inside.{outlet_of, IsReadLane}
use Rattle.st_hub.proofs.Lists.{each_set, found_at, at_map}
use Rattle.st_hub.proofs.Tries.{read_lane_kept, put_same}
use Rattle.st_hub.proofs.lanes.meet_reader.Goals as goal

pub meet-requires : goal.meet-requires
meet-requires g c =
    let xs = c.args.reads.now.items in
    let s = c.stream.result in
    let room : s < length xs = omega (arith, c.requires.0, c.stream.ensures.1) in
    let mine = c.requires.1 s _ (found_at xs s _ room c.index_mut-lane.ensures.value) in
    (mine.ours.1, sym c.stream.ensures.0 ∙ sym mine.number)

pub returns-clause-lanes : goal.returns-clause-lanes
returns-clause-lanes g c =
    let xs = c.args.reads.now.items in
    let s = c.stream.result in
    let x = c.index_mut-lane.result.now in
    let ring = g.N.HubName.read_ring in
    let room : s < length xs = omega (arith, c.requires.0, c.stream.ensures.1) in
    let at = found_at xs s x room c.index_mut-lane.ensures.value in
    let mine = c.requires.1 s x at in
    let same = c.meet.ensures.same in
    ((length-set xs s _ ∙ c.requires.0, each_set (IsReadLane ring) xs s _ c.requires.1 (read_lane_kept ring s x _ mine same.0 refl (mine.over ∙ ap has_last (sym same.1)))), put_same xs s x _ at refl same.1)

pub returns-clause-whole : goal.returns-clause-whole
returns-clause-whole g c =
    let xs = c.args.reads.now.items in
    let s = c.stream.result in
    let x = c.index_mut-lane.result.now in
    let room : s < length xs = omega (arith, c.requires.0, c.stream.ensures.1) in
    let at = found_at xs s x room c.index_mut-lane.ensures.value in
    let m = c.meet.ensures in
    rw (← c.stream.ensures.0) (ap (λ l. l ++ c.meet.new.reader.known) (sym m.reader.1) ∙ m.whole ∙ m.same.1 ∙ ap (λ (z : Outlet _). z.put) (sym (at_map outlet_of xs s x no_outlet at)))
