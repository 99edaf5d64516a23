use Rattle.std.proofs.Common.{arith}
use Rattle.std.proofs.lemmas.Grind.{common_steps}
use Rattle.st_sender.proofs.load.Load.frames.Goals as goal

pub offset_bounds-payment-items-payment-index : goal.offset_bounds-payment-items-payment-index
offset_bounds-payment-items-payment-index g c = omega (arith, c.loop-payment-test.true)

pub loop-payment-preserved : goal.loop-payment-preserved
loop-payment-preserved g c = grind (arith, common_steps)
