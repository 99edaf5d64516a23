use Rattle.st_world_quiet.specs.Worlds.{Met}
use Rattle.st_world_quiet.specs.HopRounds.{reads}
use Rattle.st_world_quiet.specs.Playing.{read_limit}
use Rattle.st_world_quiet.proofs.rounds.read_each.Given as goal

abbrev pub invariant-loop-stream : goal.invariant-loop-stream
invariant-loop-stream g l = Met l.fn.world (reads read_limit 0 l.stream) l.world
