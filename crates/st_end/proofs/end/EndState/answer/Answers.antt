use Rattle.std.proofs.Common.{refl, ap, ◌∙◌, Some}
use Rattle.st_ilp.specs.Reading.{answer_at}
use Rattle.st_end.specs.Answers.{answered_by}
use Rattle.st_end.proofs.Lawfulness.{lawful_ended}
use Rattle.st_end.proofs.end.EndState.answer.Goals as goal

pub invariant_of-self : goal.invariant_of-self
invariant_of-self g c = (
  lawful_ended _ c.args.self.now _ c.args.flight c.spend-flight.result (Some c.args.bytes.now) c.self.view_is c.spend-flight.ensures c.requires c.self.invariant.0 refl refl refl
      (λ p at. c.take_answer.ensures.left p at ∙ ap (λ k. answered_by k c.self.inside.outbox c.spend-flight.result p (answer_at c.args.bytes.now)) c.deref.ensures) c.remove.ensures,
  c.self.invariant.1,
)
