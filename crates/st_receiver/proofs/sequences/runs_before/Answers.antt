use Rattle.std.proofs.Common.{◌<◌, ◌+◌, ◌-◌, ◌/◌, length, arith}
use Rattle.st_receiver.proofs.Seating.{run_at, ends_rise, half}
use Rattle.st_receiver.proofs.sequences.runs_before.Goals as goal

pub loop-low-preserved-then-index-sequence : goal.loop-low-preserved-then-index-sequence
loop-low-preserved-then-index-sequence g c =
    let i = c.loop-low.invariant in
    let mid = c.loop-low.low + (c.loop-low.high - c.loop-low.low) / 2 in
    let rs = c.args.runs.now.items in
    let m : mid < c.loop-low.high = half c.loop-low.low c.loop-low.high c.loop-low-test.true in
    let within : mid < length rs = omega (arith, i.within, m) in
    let at = (run_at rs mid c.index.result.now within c.index.ensures).1 in
    let less = c.if-index-sequence.true in
    record {
      order = omega (arith, m);
      within = i.within;
      before = λ k l. let rise = ends_rise rs k mid c.requires (omega (arith, l)) within in omega (arith, rise, at, less);
      behind = i.behind;
    }

pub loop-low-preserved : goal.loop-low-preserved
loop-low-preserved g c =
    let i = c.loop-low.invariant in
    let mid = c.loop-low.low + (c.loop-low.high - c.loop-low.low) / 2 in
    let rs = c.args.runs.now.items in
    let m : mid < c.loop-low.high = half c.loop-low.low c.loop-low.high c.loop-low-test.true in
    let within : mid < length rs = omega (arith, i.within, m) in
    let at = (run_at rs mid c.index.result.now within c.index.ensures).1 in
    let more = c.if-index-sequence.false in
    record {
      order = omega arith;
      within = omega (arith, within);
      before = i.before;
      behind = λ k l n. let rise = ends_rise rs mid k c.requires l n in omega (arith, rise, at, more);
    }

pub returns : goal.returns
returns g c =
    let i = c.loop-low.invariant in
    record {
      rise = c.requires;
      within = omega (arith, i.order, i.within);
      before = i.before;
      behind = λ k l m. i.behind k (let stop = c.loop-low-test.false in omega (arith, stop, l)) m;
    }
