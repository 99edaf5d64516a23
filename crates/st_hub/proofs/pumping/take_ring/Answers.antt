use Rattle.std.proofs.Common.{◌+◌, ◌*◌, arith}
use Rattle.st_hub.specs.Inside.{taken_at, stands_at}
use Rattle.st_hub.proofs.StepTies.{flows_join}
use Rattle.st_hub.proofs.RingSteps.{grow_join, moved_one, stop_found}
use Rattle.st_hub.proofs.pumping.take_ring.Goals as goal

pub returns-in_default : goal.returns-in_default
returns-in_default g c =
    let o = c.take_one.ensures in
    let i = c.loop.invariant in
    let r = 8 * c.args.place + c.args.writer in
    record {
      lanes = o.lanes;
      flows = λ outs. flows_join _ _ _ (i.flows outs) (o.flows outs);
      grows = grow_join _ _ _ i.grows o.grows;
      found = λ had. stop_found c.take_one.result (c.args.place + 1) c.take_one.new.core _ _ (taken_at c.loop.writes.items r) (taken_at c.take_one.new.writes.items r) (stands_at c.take_one.new.writes.items r) c.in_default.not-Moved had (grow_join _ _ _ i.grows o.grows r) o.stops;
    }

pub loop-preserved : goal.loop-preserved
loop-preserved g c =
    let o = c.take_one.ensures in
    let i = c.loop.invariant in
    let r = 8 * c.args.place + c.args.writer in
    record {
      lanes = o.lanes;
      flows = λ outs. flows_join _ _ _ (i.flows outs) (o.flows outs);
      grows = grow_join _ _ _ i.grows o.grows;
      moved = omega (arith, i.moved, moved_one (c.args.place + 1) c.take_one.result (taken_at c.loop.writes.items r) c.take_one.new.core (taken_at c.take_one.new.writes.items r) (stands_at c.take_one.new.writes.items r) c.in-Moved.is o.stops);
    }
