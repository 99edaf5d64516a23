use Rattle.std.proofs.Common.{◌-◌, ◌≤◌}
use Rattle.ilpstream_local.specs.Parts.{part_size}
use Rattle.ilpstream_local.specs.Playing.{Continues}
use Rattle.ilpstream_local.specs.Schedule.{AreWhole, Takes, closing, each}
use Rattle.ilpstream_local.proofs.streams.close_written.Given as goal

abbrev pub decreases-loop-count : goal.decreases-loop-count
decreases-loop-count g l = l.fn.streams - l.count

abbrev pub invariant-loop-count : goal.invariant-loop-count
invariant-loop-count g l = record {
  kept : Continues l.fn.play l.play;
  more : l.closed ≤ l.count;
  whole : AreWhole (part_size l.bytes l.streams) l.bytes l.sent l.closed l.count;
  closes : Takes (each (closing l.closed) (l.count - l.closed)) l.fn.play l.play;
}
