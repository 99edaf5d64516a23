use Rattle.std.proofs.Common.{arith}
use Rattle.std.proofs.lemmas.Result.{IfOk-from_err}
use Rattle.st_sender.proofs.Totals.{all_none, none_more}
use Rattle.st_sender.proofs.streams.no_marks.Goals as goal

pub loop-number-init : goal.loop-number-init
loop-number-init g c = c.new-slots.ensures.items

pub returns-in_err-push : goal.returns-in_err-push
returns-in_err-push g c = IfOk-from_err c.from_residual.result _ c.from_residual.ensures.0

pub loop-number-preserved : goal.loop-number-preserved
loop-number-preserved g c = none_more c.loop-number.slots.items c.push.new.self.items c.loop-number._number c.loop-number.invariant c.in_ok-push.ensures.items

pub returns : goal.returns
returns g c = all_none c.loop-number.slots.items c.loop-number._number c.loop-number.invariant (omega (arith, c.loop-number-test.false, c.loop-number.auto._number-end))
