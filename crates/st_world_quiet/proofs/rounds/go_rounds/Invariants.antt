use Rattle.std.proofs.Common.{◌-◌}
use Rattle.st_world_quiet.specs.Plays.{input_of}
use Rattle.st_world_quiet.specs.Playing.{NumberedRounds, bytes_of}
use Rattle.st_world_quiet.proofs.rounds.go_rounds.Given as goal

abbrev pub decreases-loop-sends : goal.decreases-loop-sends
decreases-loop-sends g l = l.most - l.sends

abbrev pub invariant-loop-sends : goal.invariant-loop-sends
invariant-loop-sends g l = NumberedRounds (input_of (bytes_of l.input)) l.hops 0 l.sends l.fn.world l.world
