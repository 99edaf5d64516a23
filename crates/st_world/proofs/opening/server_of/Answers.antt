use Rattle.st_world.proofs.Openings.{client_named, server_named}
use Rattle.st_world.proofs.opening.server_of.Goals as goal

pub new-requires-clause-own : goal.new-requires-clause-own
new-requires-clause-own g c = server_named

pub new-requires-clause-peer : goal.new-requires-clause-peer
new-requires-clause-peer g c = client_named
