use Rattle.std.proofs.Common.{◌-◌, ◌≤◌, length}
use Rattle.ilpstream_local.specs.Parts.{part_size}
use Rattle.ilpstream_local.specs.Playing.{Sends}
use Rattle.ilpstream_local.specs.Schedule.{TakesWrites}
use Rattle.ilpstream_local.proofs.streams.write_all.Given as goal

abbrev pub decreases-loop-sent : goal.decreases-loop-sent
decreases-loop-sent g l = length l.input - l.sent

abbrev pub invariant-loop-sent : goal.invariant-loop-sent
invariant-loop-sent g l = record {
  sends : Sends (part_size (length l.input) l.streams) l.input l.fn.sent l.sent l.fn.play l.play;
  writes : TakesWrites l.fn.play l.play;
  within : l.sent ≤ length l.input;
}
