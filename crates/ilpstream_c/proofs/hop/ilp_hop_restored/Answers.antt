use Rattle.std.proofs.Common.{rules}
use Rattle.ilpstream_c.proofs.Making.{hop_restored}
use Rattle.ilpstream_c.proofs.hop.ilp_hop_restored.Goals as goal

pub returns-in-Ok : goal.returns-in-Ok
returns-in-Ok c =
    hop_restored c.args.own.now c.args.accounts.now c.args.prefixes.now c.args.routes.now c.args.claims.now c.args.dues.now c.args.next c.put_new.new.handle.state c.put_new.result c.in-Ok.hop
    c.in-Ok.ensures.0 c.in-Ok.ensures.1.0 c.in-Ok.ensures.1.1 c.args.handle.now.state (search rules) c.from-no_memory.result (search rules) c.put_new.ensures
