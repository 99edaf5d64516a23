use Rattle.ilpstream_ends.proofs.receive.receive_from.Given as goal

abbrev pub ghosts-receive_all : goal.ghosts-receive_all
ghosts-receive_all g a = record { start = a.receiver.now.end }
