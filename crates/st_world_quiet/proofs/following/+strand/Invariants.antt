use Rattle.st_world_quiet.proofs.following.+strand.Given as goal

abbrev pub decreases-strand : goal.decreases-strand
decreases-strand g l = l.past
