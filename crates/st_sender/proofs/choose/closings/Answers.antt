use Rattle.std.proofs.lemmas.Result.{IfOk-from_err}
use Rattle.std.proofs.Common.{◌<◌, List, arith, sym, ap, subst, ◌∙◌, refl}
use Rattle.st_sender.specs.declared.bounds.Bounds.{Bounds}
use Rattle.st_sender.specs.declared.load.SentFrame as code
use Rattle.st_sender.specs.declared.load.SentFrame.TheVariants as held
use Rattle.st_sender.specs.Allowed.{AreClosings, IsFinished, costs}
use Rattle.st_sender.proofs.Totals.{found_at}
use Rattle.st_sender.proofs.Changing.{same_lane, no_lane}
use Rattle.st_sender.proofs.Prompted.{closings_none, closings_skip, closings_push, less_none, push_left}
use Rattle.st_sender.proofs.choose.closings.Goals as goal
use Rattle.st_sender.proofs.choose.closings.Goals.{in-Some+in-Some-finished+in_ok-push, in-Some+in_default-finished, in_default}

pub loop-number-init : goal.loop-number-init
loop-number-init g c = (
  subst (λ (fs : List code.SentFrame). AreClosings c.args.streams.now c.args.flights.now c.args.bounds 0 fs) (sym c.new-frames.ensures.items) (closings_none c.args.streams.now c.args.flights.now c.args.bounds),
  sym (less_none c.args.bounds (costs c.new-frames.result.items) (ap costs c.new-frames.ensures.items)),
)

pub loop-number-preserved : goal.loop-number-preserved
loop-number-preserved g c =
    let lanes = c.args.streams.now in
    let flights = c.args.flights.now in
    let b = c.args.bounds in
    let n = c.loop-number.number in
    let fs = c.loop-number.frames.items in
    let small = c.loop-number-test.true in
    let was = c.loop-number.invariant.0 in
    let left = c.loop-number.invariant.1 in
    let lt = subst (λ i. n < i) (sym c.requires) small in
    elim c.match-streams-number.branch [
      | in-Some+in-Some-finished+in_ok-push w ↦
          rw (w.frames-is, w.left-is) (
            closings_push lanes flights b n fs small was w.in-Some.stream w.in-Some-finished.code w.push.new.self.items (found_at lanes n c.index-streams-number.result lt c.index-streams-number.is ∙ w.in-Some.is)
                (subst (λ (d : Bounds). IsFinished flights d n w.in-Some.stream w.in-Some-finished.code) left w.in-Some-finished.ensures) w.in_ok-push.ensures.items,
            push_left b c.loop-number.left w.less-left.result 20 fs w.push.new.self.items (held.Close n w.in-Some-finished.code) left w.less-left.ensures refl w.in_ok-push.ensures.items,
          )
      | in-Some+in_default-finished w ↦
          rw (w.frames-is, w.left-is) (
            closings_skip lanes flights b n fs small was
                (λ l e by f. let same = same_lane lanes n c.index-streams-number.result w.in-Some.stream l lt c.index-streams-number.is w.in-Some.is e in
                w.in_default-finished.ensures by (subst (λ (d : Bounds). IsFinished flights d n w.in-Some.stream by) (sym left) (rw same f))),
            left,
          )
      | in_default w ↦
          rw (w.frames-is, w.left-is) (
            closings_skip lanes flights b n fs small was (λ l e by f. absurd (no_lane lanes n c.index-streams-number.result l lt c.index-streams-number.is w.in_default.is e)),
            left,
          )
    ]

pub returns : goal.returns
returns g c = (
  subst (λ n. AreClosings c.args.streams.now c.args.flights.now c.args.bounds n c.loop-number.frames.items) (omega (arith, c.loop-number-test.false, c.loop-number.auto.number-end)) c.loop-number.invariant.0,
  c.loop-number.invariant.1,
)

pub bounds-streams-number : goal.bounds-streams-number
bounds-streams-number g c = omega (arith, c.requires, c.loop-number-test.true)

pub overflow_cast-number : goal.overflow_cast-number
overflow_cast-number g c = omega (arith, c.loop-number-test.true)

pub offset_bounds-streams-number : goal.offset_bounds-streams-number
offset_bounds-streams-number g c = omega (arith, c.requires, c.loop-number-test.true)

pub returns-in_err-push : goal.returns-in_err-push
returns-in_err-push g c = IfOk-from_err c.from_residual.result _ c.from_residual.ensures.0
