use Rattle.std.proofs.Common.{◌≡◌, ◌≤◌, ◌+◌, ◌*◌}
use Rattle.st_devices.specs.Tallies.{device_of, tally_of}
use Rattle.ilpstream_output.specs.Endings.{SpendsTurns, StaysFlushed}
use Rattle.ilpstream_frames.specs.Progress.{Covers}
use Rattle.ilpstream_frames.proofs.frames.answer_lines.Given as goal

abbrev pub decreases-loop-turns : goal.decreases-loop-turns
decreases-loop-turns g l = l.turns

abbrev pub invariant-loop-turns : goal.invariant-loop-turns
invariant-loop-turns g l = record {
  covers : Covers (g.R.Read.remaining (device_of l.fn.reader)) (g.R.Read.remaining (device_of l.reader)) (g.W.Write.contents (device_of l.fn.writer)) (g.W.Write.contents (device_of l.writer)) l.lines;
  turns : l.turns ≤ l.fn.turns;
  bounded : l.lines.index + l.lines.line.count + 65536 * l.turns ≤ 1 + 65536 * l.fn.turns;
  reader : (tally_of l.reader).faults ≡ (tally_of l.fn.reader).faults;
  writer : (tally_of l.writer).faults ≡ (tally_of l.fn.writer).faults;
  flushed : StaysFlushed (tally_of l.fn.writer) (tally_of l.writer);
  spent : SpendsTurns (tally_of l.fn.reader) (tally_of l.reader) (tally_of l.fn.writer) (tally_of l.writer) l.fn.turns l.turns;
}
