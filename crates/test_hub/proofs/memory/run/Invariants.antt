use Rattle.st_queues.specs.Lanes.{ring_at}
use Rattle.test_hub.proofs.memory.run.Given as goal

abbrev pub ghosts-run_named-N-HubName : goal.ghosts-run_named-N-HubName
ghosts-run_named-N-HubName g a = record { gauge = a.rings.gauge; write_ring = ring_at a.rings.writes; read_ring = ring_at a.rings.reads }

abbrev pub ghosts-run_named-N-Ledger : goal.ghosts-run_named-N-Ledger
ghosts-run_named-N-Ledger g a = record { name = a.blank.name; parts = a.blank.parts }
