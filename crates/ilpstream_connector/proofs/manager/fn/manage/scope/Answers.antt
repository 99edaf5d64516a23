use denote.Param.Send.{sendable}
use Rattle.ilpstream_connector.proofs.manager.fn.manage.scope.Goals as goal

-- what `manage` knows of its type parameters holds in the closure, too
pub make_threads-requires-send-C : goal.make_threads-requires-send-C
make_threads-requires-send-C g c κs within = search (sendable, c.requires.1.1.1.1.1.1.1.0)

pub make_threads-requires-send-D : goal.make_threads-requires-send-D
make_threads-requires-send-D g c κs within = search (sendable, c.requires.1.1.1.1.1.1.1.1)

pub make_threads-requires-send-K : goal.make_threads-requires-send-K
make_threads-requires-send-K g c κs within = search (sendable, c.requires.1.1.1.1.1.1.1.2)

pub make_threads-requires-send-R-Stream : goal.make_threads-requires-send-R-Stream
make_threads-requires-send-R-Stream g c κs within = search (sendable, c.requires.1.1.1.1.1.1.1.3)

pub make_threads-requires-send-R-Listener : goal.make_threads-requires-send-R-Listener
make_threads-requires-send-R-Listener g c κs within = search (sendable, c.requires.1.1.1.1.1.1.1.4)
