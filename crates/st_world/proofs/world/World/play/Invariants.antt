use Rattle.std.proofs.Common.{take}
use Rattle.st_world.specs.Runs.{Run}
use Rattle.st_world.specs.Seen.{events_seen}
use Rattle.st_world.proofs.world.World.play.Given as goal

abbrev pub invariant-loop-event : goal.invariant-loop-event
invariant-loop-event g l = Run l.fn.self (events_seen (take l.event-index l.events)) l.self
