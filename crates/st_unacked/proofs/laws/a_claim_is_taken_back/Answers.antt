use Rattle.st_unacked.proofs.Flights.{taken_back}
use Rattle.st_unacked.proofs.laws.a_claim_is_taken_back.Goals as goal

pub returns : goal.returns
returns c = taken_back
