use Rattle.std.proofs.Common.{subst, sym, ◌∙◌, arith}
use Rattle.st_sender.specs.Lanes.{SendStream}
use Rattle.st_sender.specs.Allowed.{IsFinished}
use Rattle.st_sender.proofs.Readiness.{closing_abort, closing_clean}
use Rattle.std.proofs.lemmas.Grind.{common_steps}
use Rattle.st_sender.proofs.stream.Stream.finished.Goals as goal

pub returns-then-closing : goal.returns-then-closing
returns-then-closing g c = λ code f.
    subst (λ (l : SendStream). ¬ IsFinished c.args.flights.now c.args.bounds c.args.number l code) c.self.view_is
    (closing_abort c.args.flights.now _ c.args.number _ c.in-Some.code c.in-Some.is (sym c.closing.ensures ∙ c.if-closing.true) code) f

pub returns-then-closing-2 : goal.returns-then-closing-2
returns-then-closing-2 g c = λ code f.
    subst (λ (l : SendStream). ¬ IsFinished c.args.flights.now c.args.bounds c.args.number l code) c.self.view_is
    (closing_clean c.args.flights.now _ c.args.number _ c.in-None.is (sym c.closing-in-None.ensures ∙ c.if-closing-2.true) code) f

pub returns-then-not-is_closed : goal.returns-then-not-is_closed
returns-then-not-is_closed g c = grind (arith, common_steps)

pub returns-then-self : goal.returns-then-self
returns-then-self g c = grind (arith, common_steps)

pub returns-then-not-self : goal.returns-then-not-self
returns-then-not-self g c = grind (arith, common_steps)

pub returns-else-closing : goal.returns-else-closing
returns-else-closing g c = grind (arith, common_steps)

pub returns-then-is_done : goal.returns-then-is_done
returns-then-is_done g c = grind (arith, common_steps)

pub returns-else-is_done : goal.returns-else-is_done
returns-else-is_done g c = grind (arith, common_steps)
