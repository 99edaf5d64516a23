use Rattle.std.proofs.Common.{◌∙◌, sym}
use Rattle.st_queues.specs.Lanes.{FreshRead}
use Rattle.st_queues.proofs.Each.{each-grown, length_grown}
use Rattle.st_queues.proofs.rings.read_lanes.Goals as goal

pub loop-stream-preserved : goal.loop-stream-preserved
loop-stream-preserved g c =
    let old = c.loop-stream.lanes in
    let new = c.push.new.self in (
      length_grown old.items new.items old.len new.len c.loop-stream.stream c.in_ok-lane.lane new.ok.0 c.in_ok-push.ensures.items old.ok.0 c.loop-stream.invariant.0,
      each-grown FreshRead old.items new.items c.loop-stream.stream c.in_ok-lane.lane c.loop-stream.invariant.1 c.in_ok-push.ensures.items (sym c.loop-stream.invariant.0 ∙ old.ok.0) c.in_ok-lane.ensures,
    )
