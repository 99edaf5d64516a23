use Rattle.std.proofs.Common.{◌+◌, map, arith}
use Rattle.st_hub.specs.Inside.{outlet_of, put_at, free_at}
use Rattle.st_hub.specs.Trying as trying
use Rattle.st_hub.proofs.StepTies.{flows_none, flows_join}
use Rattle.st_hub.proofs.RingSteps.{fill_join, gave_one, stop_read}
use Rattle.st_hub.proofs.pumping.give_stream.Goals as goal

pub returns-in_default : goal.returns-in_default
returns-in_default g c =
    let o = c.give_one.ensures in
    let i = c.loop.invariant in
    let s = c.args.place in
    record {
      lanes = o.lanes;
      flows = λ ins. flows_join _ _ _ (i.flows ins) (o.flows ins);
      fills = fill_join _ _ _ i.fills o.fills;
      tried = λ had ins. record {
        mid = record { core = c.loop.core; inlets = ins; outlets = map outlet_of c.loop.reads.items };
        before = i.flows ins;
        after = o.flows ins;
        found = stop_read c.give_one.result (s + 1) c.loop.core c.give_one.new.core _ _ (put_at c.loop.reads.items s) (put_at c.give_one.new.reads.items s) (free_at c.give_one.new.reads.items s) c.in_default.not-Moved had (fill_join _ _ _ i.fills o.fills s) o.stops;
      };
    }

pub loop-preserved : goal.loop-preserved
loop-preserved g c =
    let o = c.give_one.ensures in
    let i = c.loop.invariant in
    let s = c.args.place in
    record {
      lanes = o.lanes;
      flows = λ ins. flows_join _ _ _ (i.flows ins) (o.flows ins);
      fills = fill_join _ _ _ i.fills o.fills;
      moved = omega (arith, i.moved, gave_one (s + 1) c.loop.core c.give_one.result (put_at c.loop.reads.items s) c.give_one.new.core (put_at c.give_one.new.reads.items s) (free_at c.give_one.new.reads.items s) c.in-Moved.is o.stops);
    }

pub returns-clause-tried : goal.returns-clause-tried
returns-clause-tried g c had ins =
    let i = c.loop.invariant in
    let s = c.args.place in
    record {
      mid = record { core = c.loop.core; inlets = ins; outlets = map outlet_of c.loop.reads.items };
      before = i.flows ins;
      after = flows_none _;
      found = trying.many (let e = c.loop-test.false in omega (arith, i.moved, e));
    }
