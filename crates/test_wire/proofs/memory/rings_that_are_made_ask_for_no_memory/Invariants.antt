use Rattle.st_queues.specs.Lanes.{ring_at}
use Rattle.test_wire.proofs.memory.rings_that_are_made_ask_for_no_memory.Given as goal

abbrev pub ghosts-use_all-N-HubName : goal.ghosts-use_all-N-HubName
ghosts-use_all-N-HubName g a = record { gauge = a.rings.gauge; write_ring = ring_at a.rings.writes; read_ring = ring_at a.rings.reads }
