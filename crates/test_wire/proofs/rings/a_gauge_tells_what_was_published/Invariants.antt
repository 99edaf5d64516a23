use Rattle.st_queues.specs.Lanes.{ring_at}
use Rattle.test_wire.proofs.rings.a_gauge_tells_what_was_published.Given as goal

abbrev pub ghosts-watch-N-HubName : goal.ghosts-watch-N-HubName
ghosts-watch-N-HubName g a = record { gauge = a.rings.gauge; write_ring = ring_at a.rings.writes; read_ring = ring_at a.rings.reads }
