use Rattle.std.proofs.Common.{◌≡◌, length}
use Rattle.ilpstream_output.specs.Endings.{StaysFlushed}
use Rattle.ilpstream_frames.specs.Inboxes.{runs_text}
use Rattle.ilpstream_frames.proofs.Progressing.{WritesRuns}
use Rattle.st_devices.specs.Tallies.{TakesTurns, device_of, tally_of}
use Rattle.ilpstream_frames.proofs.frames.put_runs.Given as goal

abbrev pub invariant-loop-place : goal.invariant-loop-place
invariant-loop-place g l = record {
  count : length l.streams ≡ 64;
  faults : (tally_of l.writer).faults ≡ (tally_of l.fn.writer).faults;
  flushed : StaysFlushed (tally_of l.fn.writer) (tally_of l.writer);
  turns : TakesTurns (tally_of l.fn.writer) (tally_of l.writer) l.fn.turns l.turns;
  written : WritesRuns (g.W.Write.contents (device_of l.fn.writer)) (g.W.Write.contents (device_of l.writer)) (runs_text l.fn.streams) l.place l.streams;
}
