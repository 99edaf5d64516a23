use Rattle.std.proofs.Common.{refl}
use Rattle.ilpstream_log.proofs.Waits.{took, failed}
use Rattle.ilpstream_log.proofs.outlet.Outlet.call.Goals as goal

pub returns-in-Ok : goal.returns-in-Ok
returns-in-Ok g c =
    let few = rw c.first.ensures at c.in-Ok.ensures.bound in
    let appends = rw c.first.ensures at c.in-Ok.ensures.bytes in
    took g.W.Write.contents c.args.self.now _ c.in-Ok.n appends few c.written.ensures.bytes c.written.ensures.lines c.written.ensures.lost

pub returns-in-Interrupted : goal.returns-in-Interrupted
returns-in-Interrupted g c = failed g.W.Write.contents c.args.self.now _ c.in-Err.ensures.bytes refl

pub returns-in-WouldBlock : goal.returns-in-WouldBlock
returns-in-WouldBlock g c = failed g.W.Write.contents c.args.self.now _ c.in-Err.ensures.bytes refl

pub returns-in_default : goal.returns-in_default
returns-in_default g c = failed g.W.Write.contents c.args.self.now _ c.in-Err.ensures.bytes refl
