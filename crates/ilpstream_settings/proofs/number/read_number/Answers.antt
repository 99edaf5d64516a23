use Rattle.std.proofs.Common.{◌<◌, ◌*◌, ◌+◌, ◌-◌, arith, get_or}
use Rattle.ilpstream_settings.proofs.Digits.{past_most}
use Rattle.ilpstream_settings.proofs.number.read_number.Goals as goal

pub returns-in_err-checked_mul : goal.returns-in_err-checked_mul
returns-in_err-checked_mul c =
    let above : c.args.most < 10 * c.loop-digit.number + (get_or c.args.text.now c.loop-digit.digit-index 0 - 48) = omega (arith, c.in_err-checked_mul.ensures, c.ranges.most.fits) in
    rw c.from_residual.ensures (past_most c.args.most c.args.text.now c.loop-digit.digit-index _ (omega arith) c.loop-digit.invariant.value above)

pub returns-in_err-number : goal.returns-in_err-number
returns-in_err-number c =
    let above : c.args.most < 10 * c.loop-digit.number + (get_or c.args.text.now c.loop-digit.digit-index 0 - 48) = omega (arith, c.in_err-number.ensures, c.in_ok-checked_mul.ensures, c.from.ensures, c.saturating_sub.ensures, c.ranges.most.fits) in
    rw c.from_residual-in_err-number.ensures (past_most c.args.most c.args.text.now c.loop-digit.digit-index _ (omega arith) c.loop-digit.invariant.value above)

pub returns-then-number-most : goal.returns-then-number-most
returns-then-number-most c =
    past_most c.args.most c.args.text.now c.loop-digit.digit-index _ (omega arith) c.loop-digit.invariant.value (omega (arith, c.from.ensures, c.saturating_sub.ensures, c.in_ok-checked_mul.ensures))
