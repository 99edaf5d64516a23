use Rattle.st_queues.specs.Lanes.{ring_at}
use Rattle.ilpstream_ends.proofs.send.send_on.Given as goal

abbrev pub ghosts-run-N-HubName : goal.ghosts-run-N-HubName
ghosts-run-N-HubName g a = record { gauge = a.rings.gauge; write_ring = ring_at a.rings.writes; read_ring = ring_at a.rings.reads }

abbrev pub ghosts-run-N-Ledger : goal.ghosts-run-N-Ledger
ghosts-run-N-Ledger g a = record { name = a.blank.name; parts = a.blank.parts }
