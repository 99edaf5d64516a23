use Rattle.std.proofs.Common.{◌-◌}
use Rattle.st_world_quiet.specs.LostWorlds.{course_at}
use Rattle.st_world_quiet.specs.Fates.{HasPlayed, courses_of}
use Rattle.st_world_quiet.proofs.fated.go_fates.Given as goal

abbrev pub decreases-loop-sends : goal.decreases-loop-sends
decreases-loop-sends g l = l.most - l.sends

abbrev pub invariant-loop-sends : goal.invariant-loop-sends
invariant-loop-sends g l = HasPlayed (course_at (courses_of l.fates)) l.hops l.sends l.told l.fn.world l.world
