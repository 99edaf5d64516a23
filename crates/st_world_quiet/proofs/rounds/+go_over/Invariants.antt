use Rattle.st_world_quiet.proofs.rounds.+go_over.Given as goal

abbrev pub decreases-go_over : goal.decreases-go_over
decreases-go_over g l = l.hops
