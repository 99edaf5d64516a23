use Rattle.std.proofs.Common.{◌≡◌, ◌-◌, ◌≤◌, length}
use Rattle.ilpstream_local.specs.Parts.{part_size}
use Rattle.ilpstream_local.specs.Playing.{HasSent, most_events}
use Rattle.ilpstream_local.specs.Schedule.{IsAt, IsCounted, reach_of}
use Rattle.ilpstream_local.proofs.streams.send_parts.Given as goal

abbrev pub decreases-playing : goal.decreases-playing
decreases-playing g l = most_events - l.play.events

abbrev pub invariant-playing : goal.invariant-playing
invariant-playing g l = record {
  asked : l.play.asked ≡ l.fn.play.asked;
  sent : HasSent (part_size (length l.input) l.streams) l.input l.progress.sent l.play.world;
  within : l.progress.sent ≤ length l.input;
  counted : IsCounted l.play.asked.lose l.play.events l.progress.counts;
  rounds : IsAt (part_size (length l.input) l.streams) l.streams l.input (reach_of l.progress) l.fn.play l.play;
}
