use Rattle.st_world_quiet.specs.Worlds.{Met}
use Rattle.st_world_quiet.specs.HopRounds.{allows}
use Rattle.st_world_quiet.specs.Plays.{money_of}
use Rattle.st_world_quiet.proofs.opening.allow_each.Given as goal

abbrev pub invariant-loop-stream : goal.invariant-loop-stream
invariant-loop-stream g l = Met l.fn.world (allows (money_of l.money) 0 l.stream) l.world
