use Rattle.std.proofs.Common.{◌≡◌, ◌≤◌}
use Rattle.st_world_quiet.specs.LostWorlds.{course_at, puts_by}
use Rattle.st_world_quiet.specs.Fates.{courses_of}
use Rattle.st_world_quiet.proofs.following.puts_before.Given as goal

abbrev pub invariant-loop-send : goal.invariant-loop-send
invariant-loop-send l = (l.count ≡ puts_by (course_at (courses_of l.fates)) l.send l.link) × (l.count ≤ l.send)
