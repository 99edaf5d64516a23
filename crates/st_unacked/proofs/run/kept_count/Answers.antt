use Rattle.std.proofs.Common.{◌∙◌, ◌-◌, refl, arith}
use Rattle.st_unacked.proofs.Counts.{rest-step, kept-step, kept_none, kept_few, kept_all, none_left}
use Rattle.st_unacked.proofs.run.kept_count.Goals as goal

pub loop-run-init : goal.loop-run-init
loop-run-init g c = record { from = omega arith; counted = kept_none c.args.runs.now.items c.args.first; rest = λ q l. refl }

pub overflow_add-count : goal.overflow_add-count
overflow_add-count g c =
    let sum = kept-step c.args.runs.now.items c.deref-run-items.result.now c.deref-run-items.ensures.value c.loop-run.run-index _ c.args.first c.loop-run.start c.max-past.result c.loop-run-test.true c.loop-run.invariant.from c.loop-run.invariant.rest c.max-past.ensures
    c.loop-run.count c.kept_from-count.result c.loop-run.invariant.counted c.kept_from-count.ensures in
    omega (arith, sum, kept_few c.args.runs.now.items c.args.first (c.max-past.result - c.args.first), c.max-past.type_inv)

pub loop-run-preserved : goal.loop-run-preserved
loop-run-preserved g c = record {
  from = omega (arith, c.max-past.ensures, c.loop-run.invariant.from);
  counted = kept-step c.args.runs.now.items c.deref-run-items.result.now c.deref-run-items.ensures.value c.loop-run.run-index _ c.args.first c.loop-run.start c.max-past.result c.loop-run-test.true c.loop-run.invariant.from c.loop-run.invariant.rest c.max-past.ensures
      c.loop-run.count c.kept_from-count.result c.loop-run.invariant.counted c.kept_from-count.ensures;
  rest = rest-step c.args.runs.now.items c.deref-run-items.result.now c.deref-run-items.ensures.value c.loop-run.run-index _ c.args.first c.loop-run.start c.max-past.result c.loop-run-test.true c.loop-run.invariant.from c.loop-run.invariant.rest c.max-past.ensures;
}

pub returns : goal.returns
returns g c n past =
    c.loop-run.invariant.counted
    ∙ kept_all c.args.runs.now.items c.args.first (c.loop-run.start - c.args.first) n
    (λ q l. none_left c.args.runs.now.items c.deref-run-items.result.now c.deref-run-items.ensures.value c.loop-run.run-index q c.loop-run-test.false (c.loop-run.invariant.rest q (omega (arith, l, c.loop-run.invariant.from)))) past
