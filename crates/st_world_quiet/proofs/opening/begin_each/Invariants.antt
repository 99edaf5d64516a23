use Rattle.st_world_quiet.specs.HopRounds.{BeginsEach}
use Rattle.st_world_quiet.specs.Plays.{input_of, money_of}
use Rattle.st_world_quiet.specs.Playing.{bytes_of}
use Rattle.st_world_quiet.proofs.opening.begin_each.Given as goal

abbrev pub invariant-loop-place : goal.invariant-loop-place
invariant-loop-place g l = BeginsEach (input_of (bytes_of l.input)) (money_of l.money) l.place l.fn.world l.world
