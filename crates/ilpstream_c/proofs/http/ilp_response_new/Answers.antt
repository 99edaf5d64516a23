use Rattle.std.proofs.Common.{subst, rules}
use Rattle.host_objects.specs.declared.object.Object.TheVariants.{Message}
use Rattle.ilpstream_c.proofs.Made.{Put, response_made}
use Rattle.ilpstream_c.proofs.http.ilp_response_new.Goals as goal

pub returns : goal.returns
returns c =
    let put : Put (Message c.new-message.result) 87 c.put_new.result c.put_new.new.handle.state = search rules in
    response_made c.args.handle.now.state c.put_new.new.handle.state c.put_new.result c.new-message.result (search rules) (search rules) put
