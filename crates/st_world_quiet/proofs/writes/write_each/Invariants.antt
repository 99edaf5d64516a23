use Rattle.st_world_quiet.specs.HopRounds.{Writes}
use Rattle.st_world_quiet.specs.Plays.{input_of}
use Rattle.st_world_quiet.specs.Playing.{bytes_of}
use Rattle.st_world_quiet.proofs.writes.write_each.Given as goal

abbrev pub invariant-loop-stream : goal.invariant-loop-stream
invariant-loop-stream g l = Writes (input_of (bytes_of l.input)) 0 l.stream l.fn.world l.world
