use Rattle.st_end.proofs.Numbered.{stream_of_number}
use Rattle.st_end.proofs.end.EndState.stream_of.Goals as goal

pub returns : goal.returns
returns g c = stream_of_number _ c.args.self.now c.args.number c.new.result c.self.view_is c.self.invariant.0 c.new.ensures
