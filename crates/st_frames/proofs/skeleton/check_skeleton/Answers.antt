use Rattle.std.proofs.Common.{◌≡◌, ◌-◌, ◌+◌, refl, arith}
use Rattle.std.proofs.lemmas.Result.{err_from_is_err_and}
use Rattle.st_frames.proofs.FramesLemmas.{raws_more, raws_fault, raws_none}
use Rattle.st_frames.proofs.skeleton.check_skeleton.Goals as goal

pub returns-in_err-after-clause-err : goal.returns-in_err-after-clause-err
returns-in_err-after-clause-err c =
    let p = err_from_is_err_and c.from_residual.result c.from_residual.ensures.1 in
    rw (p.1, p.2) (c.loop.invariant.faults _ (raws_fault (c.args.count - c.loop.counter) c.loop.rest.now _ (omega arith) c.in_err-after.ensures))

pub loop-preserved : goal.loop-preserved
loop-preserved c =
    let l = c.loop in
    let e : c.args.count - l.counter - 1 ≡ c.args.count - (l.counter + 1) = omega arith in
    rw (← e) (raws_more _ (c.args.count - l.counter) l.rest.now c.in_ok-after.after.now _ (omega arith) c.in_ok-after.ensures l.invariant)

pub returns-clause-ok : goal.returns-clause-ok
returns-clause-ok c =
    let e = raws_none (c.args.count - c.loop.counter) c.loop.rest.now (omega arith) in
    c.loop.invariant.reads (rw e refl)
