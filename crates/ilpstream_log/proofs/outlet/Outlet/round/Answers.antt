use Rattle.ilpstream_log.proofs.Waits.{nothing, more}
use Rattle.ilpstream_log.proofs.outlet.Outlet.round.Goals as goal

pub loop-init : goal.loop-init
loop-init g c = nothing g.W.Write.contents c.args.self.now

pub loop-preserved : goal.loop-preserved
loop-preserved g c = more g.W.Write.contents c.args.self.now c.loop.self c.call.new.self c.loop.invariant c.call.ensures

pub returns-in-Later-clause-written : goal.returns-in-Later-clause-written
returns-in-Later-clause-written g c = more g.W.Write.contents c.args.self.now c.loop.self c.call.new.self c.loop.invariant c.call.ensures

pub returns-in-Failed-clause-written : goal.returns-in-Failed-clause-written
returns-in-Failed-clause-written g c = more g.W.Write.contents c.args.self.now c.loop.self c.call.new.self c.loop.invariant c.call.ensures
