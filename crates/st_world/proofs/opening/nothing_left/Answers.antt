use Rattle.st_world.proofs.Openings.{opened_left}
use Rattle.st_world.proofs.opening.nothing_left.Goals as goal

pub returns : goal.returns
returns g c =
    opened_left c.args.terms.now c.args.config c.in_ok-client.client c.in_ok-client.server c.in_ok-nodes.nodes.items c.in_ok-from_client.from_client c.in_ok-from_server.from_server
    c.in_ok-client.ensures.0 c.in_ok-client.ensures.1 c.in_ok-nodes.ensures c.in_ok-from_client.ensures c.in_ok-from_server.ensures
