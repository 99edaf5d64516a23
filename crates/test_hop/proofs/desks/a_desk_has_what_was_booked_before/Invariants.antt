use Rattle.test_hop.proofs.desks.a_desk_has_what_was_booked_before.Given as goal

abbrev pub ghosts-owed_before-C-Ledger : goal.ghosts-owed_before-C-Ledger
ghosts-owed_before-C-Ledger g a = record { name = a.claims.name; parts = a.claims.parts }

abbrev pub ghosts-owed_before-D-Ledger : goal.ghosts-owed_before-D-Ledger
ghosts-owed_before-D-Ledger g a = record { name = a.dues.name; parts = a.dues.parts }
