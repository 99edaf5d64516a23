use Rattle.st_world_quiet.proofs.following.+go.Given as goal

abbrev pub decreases-go : goal.decreases-go
decreases-go g l = l.hops
