use Rattle.st_queues.specs.Lanes.{ring_at}
use Rattle.test_wire.proofs.rings.a_fresh_ring_takes_64_items.Given as goal

abbrev pub ghosts-fill_ring-N-HubName : goal.ghosts-fill_ring-N-HubName
ghosts-fill_ring-N-HubName g a = record { gauge = a.rings.gauge; write_ring = ring_at a.rings.writes; read_ring = ring_at a.rings.reads }
