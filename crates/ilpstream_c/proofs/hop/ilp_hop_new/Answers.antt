use Rattle.std.proofs.Common.{rules}
use Rattle.ilpstream_c.proofs.Making.{hop_made}
use Rattle.ilpstream_c.proofs.hop.ilp_hop_new.Goals as goal

pub returns-in-Ok : goal.returns-in-Ok
returns-in-Ok c =
    hop_made c.args.own.now c.args.accounts.now c.args.prefixes.now c.args.routes.now c.put_new.new.handle.state c.put_new.result c.in-Ok.hop
    c.in-Ok.ensures.0 c.in-Ok.ensures.1.0 c.in-Ok.ensures.1.1 c.args.handle.now.state (search rules) c.from-no_memory.result (search rules) c.put_new.ensures
