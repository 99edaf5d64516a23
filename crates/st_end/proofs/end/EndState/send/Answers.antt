use Rattle.st_end.proofs.Plain.{sent_goes}
use Rattle.st_end.proofs.end.EndState.send.Goals as goal

pub returns-clause-goes : goal.returns-clause-goes
returns-clause-goes g c = sent_goes _ _ _ _ _ _ _ _ _ (rw c.in-Some.is at c.in_ok-unsealed.ensures.goes) c.seal-flight.ensures.flight c.seal-flight.ensures.bytes c.keep.ensures
