use Rattle.std.proofs.Common.{◌∙◌, sym}
use Rattle.st_queues.specs.Lanes.{Fresh}
use Rattle.st_queues.proofs.Each.{each-grown, length_grown}
use Rattle.st_queues.proofs.rings.write_lanes.Goals as goal

pub loop-ring-preserved : goal.loop-ring-preserved
loop-ring-preserved g c =
    let old = c.loop-ring.lanes in
    let new = c.push.new.self in (
      length_grown old.items new.items old.len new.len c.loop-ring.ring c.in_ok-lane.lane new.ok.0 c.in_ok-push.ensures.items old.ok.0 c.loop-ring.invariant.0,
      each-grown Fresh old.items new.items c.loop-ring.ring c.in_ok-lane.lane c.loop-ring.invariant.1 c.in_ok-push.ensures.items (sym c.loop-ring.invariant.0 ∙ old.ok.0) c.in_ok-lane.ensures,
    )
