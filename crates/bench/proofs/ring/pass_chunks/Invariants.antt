use Rattle.st_queues.specs.Lanes.{ring_at}
use Rattle.bench.proofs.ring.pass_chunks.Given as goal

abbrev pub ghosts-pass_named-N-HubName : goal.ghosts-pass_named-N-HubName
ghosts-pass_named-N-HubName g a = record { gauge = a.rings.gauge; write_ring = ring_at a.rings.writes; read_ring = ring_at a.rings.reads }
