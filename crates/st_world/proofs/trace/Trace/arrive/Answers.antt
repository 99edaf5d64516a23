use Rattle.std.proofs.lemmas.Grind.{common_steps}
use Rattle.std.proofs.Common.{◌∙◌, sym, ap, arith}
use Rattle.st_world_parts.specs.Sides.{Client, Server}
use Rattle.st_world_parts.specs.Seen.{way_seen, told_seen}
use Rattle.st_world.specs.Left.{in_world}
use Rattle.st_world.proofs.LinkLists.{puts_within}
use Rattle.st_world.proofs.Reached.{arrives_on}
use Rattle.st_world.proofs.trace.Trace.arrive.Goals as goal

pub arrive_for_server-requires-clause-within : goal.arrive_for_server-requires-clause-within
arrive_for_server-requires-clause-within g c = puts_within c.args.links.now c.args.link (way_seen c.args.way) c.args.which c.in-Some.put (sym c.in_ok-put.ensures ∙ c.in-Some.is)

pub arrive_for_client-requires-clause-within : goal.arrive_for_client-requires-clause-within
arrive_for_client-requires-clause-within g c = puts_within c.args.links.now c.args.link (way_seen c.args.way) c.args.which c.in-Some.put (sym c.in_ok-put.ensures ∙ c.in-Some.is)

pub same-self : goal.same-self
same-self g c = grind (arith, common_steps)

pub returns-in_err-put-clause-met : goal.returns-in_err-put-clause-met
returns-in_err-put-clause-met g c = grind (arith, common_steps)

pub returns-in_err-put-clause-same_self : goal.returns-in_err-put-clause-same_self
returns-in_err-put-clause-same_self g c = grind (arith, common_steps)

pub returns-in_err-put-clause-same_links : goal.returns-in_err-put-clause-same_links
returns-in_err-put-clause-same_links g c = grind (arith, common_steps)

pub returns-in_err-put-clause-nodes : goal.returns-in_err-put-clause-nodes
returns-in_err-put-clause-nodes g c = grind (arith, common_steps)

pub same-self-in_default : goal.same-self-in_default
same-self-in_default g c = grind (arith, common_steps)

pub returns-in_default-clause-met : goal.returns-in_default-clause-met
returns-in_default-clause-met g c = grind (arith, common_steps)

pub returns-in_default-clause-nodes : goal.returns-in_default-clause-nodes
returns-in_default-clause-nodes g c = grind (arith, common_steps)

pub same-self-in-ToServer : goal.same-self-in-ToServer
same-self-in-ToServer g c = grind (arith, common_steps)

pub arrive_for_server-requires-clause-links : goal.arrive_for_server-requires-clause-links
arrive_for_server-requires-clause-links g c = grind (arith, common_steps)

pub returns-in-ToServer-clause-nodes : goal.returns-in-ToServer-clause-nodes
returns-in-ToServer-clause-nodes g c = grind (arith, common_steps)

pub same-self-in-ToClient : goal.same-self-in-ToClient
same-self-in-ToClient g c = grind (arith, common_steps)

pub arrive_for_client-requires-clause-links : goal.arrive_for_client-requires-clause-links
arrive_for_client-requires-clause-links g c = grind (arith, common_steps)

pub returns-clause-nodes : goal.returns-clause-nodes
returns-clause-nodes g c = grind (arith, common_steps)

pub returns-in-ToServer-clause-met : goal.returns-in-ToServer-clause-met
returns-in-ToServer-clause-met g c =
    let w = in_world c.args.self.now c.args.links.now in
    arrives_on c.arrive_for_server.result told_seen w (in_world c.arrive_for_server.new.self c.arrive_for_server.new.links) c.args.link (way_seen c.args.way) Client c.args.which c.args.now c.in-Some.put (ap way_seen c.in-ToServer.is) (sym c.in_ok-put.ensures ∙ c.in-Some.is) c.arrive_for_server.ensures.met

pub returns-clause-met : goal.returns-clause-met
returns-clause-met g c =
    let w = in_world c.args.self.now c.args.links.now in
    arrives_on c.arrive_for_client.result told_seen w (in_world c.arrive_for_client.new.self c.arrive_for_client.new.links) c.args.link (way_seen c.args.way) Server c.args.which c.args.now c.in-Some.put (ap way_seen c.in-ToClient.is) (sym c.in_ok-put.ensures ∙ c.in-Some.is) c.arrive_for_client.ensures.met
