use Rattle.st_world_quiet.proofs.following.+lose.Given as goal

abbrev pub decreases-lose : goal.decreases-lose
decreases-lose g l = l.past
