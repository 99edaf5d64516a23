use Rattle.st_queues.specs.Lanes.{ring_at}
use Rattle.test_hub.proofs.hubs.run.Given as goal

abbrev pub ghosts-run_named-N-HubName : goal.ghosts-run_named-N-HubName
ghosts-run_named-N-HubName g a = record { gauge = a.near_rings.gauge; write_ring = ring_at a.near_rings.writes; read_ring = ring_at a.near_rings.reads }

abbrev pub ghosts-run_named-N-Ledger : goal.ghosts-run_named-N-Ledger
ghosts-run_named-N-Ledger g a = record { name = a.near_blank.name; parts = a.near_blank.parts }

abbrev pub ghosts-run_named-M-HubName : goal.ghosts-run_named-M-HubName
ghosts-run_named-M-HubName g a = record { gauge = a.far_rings.gauge; write_ring = ring_at a.far_rings.writes; read_ring = ring_at a.far_rings.reads }

abbrev pub ghosts-run_named-M-Ledger : goal.ghosts-run_named-M-Ledger
ghosts-run_named-M-Ledger g a = record { name = a.far_blank.name; parts = a.far_blank.parts }
