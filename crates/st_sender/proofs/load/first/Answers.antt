use Rattle.std.proofs.Common.{arith}
use Rattle.std.proofs.lemmas.Grind.{common_steps}
use Rattle.st_sender.proofs.load.first.Goals as goal

pub offset_bounds-all-framed-index : goal.offset_bounds-all-framed-index
offset_bounds-all-framed-index g c = c.loop-framed.auto.framed-index-end

pub bounds-all-framed-index : goal.bounds-all-framed-index
bounds-all-framed-index g c = c.loop-framed-test.true

pub loop-framed-preserved : goal.loop-framed-preserved
loop-framed-preserved g c = grind (arith, common_steps)

pub returns-clause-frames : goal.returns-clause-frames
returns-clause-frames g c = grind (arith, common_steps)
