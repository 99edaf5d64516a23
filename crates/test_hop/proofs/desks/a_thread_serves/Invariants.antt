use Rattle.test_hop.proofs.desks.a_thread_serves.Given as goal

abbrev pub ghosts-one_serves-C-Ledger : goal.ghosts-one_serves-C-Ledger
ghosts-one_serves-C-Ledger g a = record { name = a.claims.name; parts = a.claims.parts }

abbrev pub ghosts-one_serves-D-Ledger : goal.ghosts-one_serves-D-Ledger
ghosts-one_serves-D-Ledger g a = record { name = a.dues.name; parts = a.dues.parts }
