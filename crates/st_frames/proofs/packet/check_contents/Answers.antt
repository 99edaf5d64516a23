use Rattle.std.proofs.Common.{◌≡◌, ◌-◌, ◌+◌, refl, arith}
use Rattle.std.proofs.lemmas.Result.{err_from_is_err_and}
use Rattle.st_frames.proofs.FramesLemmas.{checked_next, frames_fault, frames_none}
use Rattle.st_frames.proofs.packet.check_contents.Goals as goal

pub returns-in_err-after-clause-err : goal.returns-in_err-after-clause-err
returns-in_err-after-clause-err c =
    let l = c.loop-index in
    let p = err_from_is_err_and c.from_residual.result c.from_residual.ensures.1 in
    rw (p.1, p.2) (l.invariant.contents.faults _ (frames_fault (c.args.count - l.index) l.index l.rest.now _ (omega arith) l.invariant.skeleton c.in_err-after.ensures))

pub loop-index-preserved : goal.loop-index-preserved
loop-index-preserved c =
    let l = c.loop-index in
    let e : c.args.count - l.index - 1 ≡ c.args.count - (l.index + 1) = omega arith in
    rw (← e) (checked_next _ (c.args.count - l.index) l.index l.rest.now c.in_ok-after.after.now _ (omega arith) c.in_ok-after.ensures l.invariant)

pub returns-clause-ok : goal.returns-clause-ok
returns-clause-ok c =
    let e = frames_none (c.args.count - c.loop-index.index) c.loop-index.index c.loop-index.rest.now (omega arith) in
    c.loop-index.invariant.contents.reads (rw e refl)
