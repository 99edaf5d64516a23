use Rattle.std.proofs.Common.{subst, rules}
use Rattle.host_objects.specs.declared.object.Object.TheVariants.{Keys}
use Rattle.ilpstream_c.proofs.Made.{Put, keys_made}
use Rattle.ilpstream_c.proofs.keys.ilp_keys_new.Goals as goal

pub returns : goal.returns
returns c =
    let put : Put (Keys c.new-keys.result) 33 c.put_new.result c.put_new.new.handle.state = search rules in
    keys_made c.args.secret.now c.args.handle.now.state c.put_new.new.handle.state c.put_new.result c.new-keys.result (search rules) c.new-keys.ensures put
