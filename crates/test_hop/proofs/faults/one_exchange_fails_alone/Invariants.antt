use Rattle.test_hop.proofs.faults.one_exchange_fails_alone.Given as goal

abbrev pub ghosts-second_fails-C-Ledger : goal.ghosts-second_fails-C-Ledger
ghosts-second_fails-C-Ledger g a = record { name = a.claims.name; parts = a.claims.parts }

abbrev pub ghosts-second_fails-D-Ledger : goal.ghosts-second_fails-D-Ledger
ghosts-second_fails-D-Ledger g a = record { name = a.dues.name; parts = a.dues.parts }
