use Rattle.st_queues.specs.Lanes.{ring_at}
use Rattle.bench.proofs.hubs.pass_bytes.Given as goal

abbrev pub ghosts-pass_named-N-HubName : goal.ghosts-pass_named-N-HubName
ghosts-pass_named-N-HubName g a = record { gauge = a.near.rings.gauge; write_ring = ring_at a.near.rings.writes; read_ring = ring_at a.near.rings.reads }

abbrev pub ghosts-pass_named-N-Ledger : goal.ghosts-pass_named-N-Ledger
ghosts-pass_named-N-Ledger g a = record { name = a.near_blank.name; parts = a.near_blank.parts }

abbrev pub ghosts-pass_named-M-HubName : goal.ghosts-pass_named-M-HubName
ghosts-pass_named-M-HubName g a = record { gauge = a.far.rings.gauge; write_ring = ring_at a.far.rings.writes; read_ring = ring_at a.far.rings.reads }

abbrev pub ghosts-pass_named-M-Ledger : goal.ghosts-pass_named-M-Ledger
ghosts-pass_named-M-Ledger g a = record { name = a.far_blank.name; parts = a.far_blank.parts }
