use Rattle.test_hop.proofs.threads.both_pass_the_gate.Given as goal

abbrev pub ghosts-two_serve-C-Ledger : goal.ghosts-two_serve-C-Ledger
ghosts-two_serve-C-Ledger g a = record { name = a.claims.name; parts = a.claims.parts }

abbrev pub ghosts-two_serve-D-Ledger : goal.ghosts-two_serve-D-Ledger
ghosts-two_serve-D-Ledger g a = record { name = a.dues.name; parts = a.dues.parts }
