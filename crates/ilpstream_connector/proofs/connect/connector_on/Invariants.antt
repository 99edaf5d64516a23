use Rattle.ilpstream_connector.proofs.connect.connector_on.Given as goal

abbrev pub ghosts-run-C-Ledger : goal.ghosts-run-C-Ledger
ghosts-run-C-Ledger g a = record { name = a.claims.name; parts = a.claims.parts }

abbrev pub ghosts-run-D-Ledger : goal.ghosts-run-D-Ledger
ghosts-run-D-Ledger g a = record { name = a.dues.name; parts = a.dues.parts }
