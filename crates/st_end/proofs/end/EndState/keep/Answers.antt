use Rattle.st_end.proofs.Lawfulness.{knows_lawful, knows}
use Rattle.st_end.proofs.end.EndState.keep.Goals as goal

pub invariant_of-self : goal.invariant_of-self
invariant_of-self g c = (knows_lawful _ c.args.iv c.know.new.self c.read-open.result c.self.invariant.0 c.know.ensures.known c.know.ensures.other, c.self.invariant.1)

pub returns : goal.returns
returns g c = knows _ c.args.self.now c.args.iv c.know.new.self c.read-open.result c.args.flight.now c.self.view_is c.read-open.ensures c.know.ensures.known c.know.ensures.other
