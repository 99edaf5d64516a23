use Rattle.std.proofs.Common.{arith, sym, ap, ◌∙◌, refl}
use Rattle.st_frames.specs.Seen.{seen}
use Rattle.st_sender.specs.Allowed.{has_limit}
use Rattle.st_sender.specs.Shown.{telling}
use Rattle.st_sender.specs.declared.load.SentFrame.TheVariants as held
use Rattle.st_sender.proofs.Prompted.{skip_this, told_this, full_any, push_this, done_all, push_left}
use Rattle.st_sender.proofs.peer_blocked.PeerBlocked.all_awaited.Goals as goal
use Rattle.st_sender.proofs.peer_blocked.PeerBlocked.all_awaited.Goals.{in-Some+then-len-lt-MAX_LIMITS+then-not-any_tells+in_ok-push, in-Some+else-len-lt-MAX_LIMITS, else-len-lt-MAX_LIMITS-via-then-len-lt-MAX_LIMITS+else-not-any_tells, else-len-lt-MAX_LIMITS-via-else-len-lt-MAX_LIMITS, in_default}

pub loop-frame-preserved : goal.loop-frame-preserved
loop-frame-preserved g c =
    let m = c.args.self.now in
    let flights = c.args.flights.now in
    let b = c.args.bounds in
    let xs = c.args.limits.now in
    let i = c.loop-frame.frame-index in
    let fs = c.loop-frame.frames.items in
    let lt = c.loop-frame-test.true in
    let was = c.loop-frame.invariant.0 in
    let left = c.loop-frame.invariant.1 in
    elim c.match-awaited.branch [
      | in-Some+then-len-lt-MAX_LIMITS+then-not-any_tells+in_ok-push w ↦
          rw (w.frames-is, w.left-is) (
            push_this m flights b seen xs i fs c.loop-frame.left left lt was _ w.in-Some.notice w.push.new.self.items w.in-Some.ensures.0 w.in-Some.ensures.1 (omega (arith, w.if-len-lt-MAX_LIMITS.true, w.len.ensures, c.loop-frame.frames.ok.0))
                (ap (has_limit (telling w.in-Some.notice)) (sym w.deref.ensures.value) ∙ sym w.any_tells.ensures ∙ w.if-not-any_tells.true) w.in_ok-push.ensures.items,
            push_left b c.loop-frame.left w.less-left.result 36 fs w.push.new.self.items (held.Notice w.in-Some.notice) left w.less-left.ensures refl w.in_ok-push.ensures.items,
          )
      | in-Some+else-len-lt-MAX_LIMITS w ↦
          rw (w.frames-is, w.left-is) (
            elim w.else-len-lt-MAX_LIMITS.branch [
              | else-len-lt-MAX_LIMITS-via-then-len-lt-MAX_LIMITS+else-not-any_tells v ↦
                  told_this m flights b seen xs i fs c.loop-frame.left left lt was _ w.in-Some.notice w.in-Some.ensures.0 (ap (has_limit (telling w.in-Some.notice)) (sym v.deref.ensures.value) ∙ sym v.any_tells.ensures ∙ v.if-not-any_tells.false)
              | else-len-lt-MAX_LIMITS-via-else-len-lt-MAX_LIMITS v ↦ full_any m flights b seen xs i fs c.loop-frame.left left lt was (omega (arith, v.if-len-lt-MAX_LIMITS.false, w.len.ensures, c.loop-frame.frames.ok.0))
            ],
            left,
          )
      | in_default w ↦ rw (w.frames-is, w.left-is) (skip_this m flights b seen xs i fs c.loop-frame.left left lt was _ w.in_default.ensures, left)
    ]

pub returns : goal.returns
returns g c = (
  done_all c.args.self.now c.args.flights.now c.args.bounds seen c.args.limits.now c.loop-frame.frame-index c.loop-frame.frames.items (omega (arith, c.loop-frame-test.false)) (omega (arith, c.loop-frame.auto.frame-index-end)) c.loop-frame.invariant.0,
  c.loop-frame.invariant.1,
)
