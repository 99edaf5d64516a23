use Rattle.st_world.proofs.Reached.{found_at}
use Rattle.st_world.proofs.trace.Trace.hop.Goals as goal

pub returns : goal.returns
returns g c = rw (← c.self.view_is, ← c.deref.ensures.value) (found_at c.get.result c.deref.result.now c.args.place c.get.ensures.lookup.0 c.get.ensures.lookup.1)
