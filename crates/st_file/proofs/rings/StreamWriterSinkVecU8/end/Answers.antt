use Rattle.st_file.proofs.Items.{end_taken, end_refused}
use Rattle.st_file.proofs.rings.StreamWriterSinkVecU8.end.Goals as goal

pub returns-in-Ok : goal.returns-in-Ok
returns-in-Ok g c = end_taken c.args.self.now c.try_end.new.self c.in-Ok.ensures.ok.3 c.in-Ok.ensures.ok.1

pub returns-in-Err-Full : goal.returns-in-Err-Full
returns-in-Err-Full g c = end_refused c.args.self.now c.try_end.new.self c.in-Err-Full.ensures.unchanged.0 c.in-Err-Full.ensures.unchanged.1

pub returns : goal.returns
returns g c = end_refused c.args.self.now c.try_end.new.self c.in-Err.ensures.unchanged.0 c.in-Err.ensures.unchanged.1
