use Rattle.st_end.proofs.Lawfulness.{lawful_changed}
use Rattle.st_end.proofs.end.EndState.abort.Goals as goal

pub invariant_of-self-2 : goal.invariant_of-self-2
invariant_of-self-2 g c = (lawful_changed _ _ c.args.stream _ c.in_ok-abort.ensures.aborts c.self.invariant.0, c.self.invariant.1)
