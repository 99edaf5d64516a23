use Rattle.test_hop.proofs.memory.run.Given as goal

abbrev pub ghosts-served-C-Ledger : goal.ghosts-served-C-Ledger
ghosts-served-C-Ledger g a = record { name = a.claims.name; parts = a.claims.parts }

abbrev pub ghosts-served-D-Ledger : goal.ghosts-served-D-Ledger
ghosts-served-D-Ledger g a = record { name = a.dues.name; parts = a.dues.parts }
