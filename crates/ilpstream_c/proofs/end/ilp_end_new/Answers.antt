use Rattle.std.proofs.Common.{rules}
use Rattle.ilpstream_c.proofs.Making.{end_made}
use Rattle.ilpstream_c.proofs.end.ilp_end_new.Goals as goal

pub returns-in-Ok : goal.returns-in-Ok
returns-in-Ok c =
    end_made c.args.role c.args.secret.now c.args.own.now c.args.peer.now c.args.config.now c.put_new.new.handle.state c.put_new.result c.in-Ok.end
    c.in-Ok.ensures.0 c.in-Ok.ensures.1 c.args.handle.now.state (search rules) c.from-no_memory.result (search rules) c.put_new.ensures
