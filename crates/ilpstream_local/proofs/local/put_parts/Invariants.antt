use Rattle.std.proofs.Common.{◌≡◌}
use Rattle.std.specs.Io.KnownBytes.{Appends}
use Rattle.st_devices.specs.Tallies.{TakesTurns, device_of, tally_of}
use Rattle.ilpstream_local.specs.Parts.{joined, stream_at}
use Rattle.ilpstream_local.specs.Playing.{read_on}
use Rattle.ilpstream_output.specs.Endings.{StaysFlushed}
use Rattle.ilpstream_local.proofs.local.put_parts.Given as goal

abbrev pub invariant-loop-place : goal.invariant-loop-place
invariant-loop-place g l = record {
  written : Appends (g.W.Write.contents (device_of l.fn.writer)) (g.W.Write.contents (device_of l.writer)) (joined (λ place. read_on l.play.world (stream_at place)) l.place);
  faults : (tally_of l.writer).faults ≡ (tally_of l.fn.writer).faults;
  flushed : StaysFlushed (tally_of l.fn.writer) (tally_of l.writer);
  turns : TakesTurns (tally_of l.fn.writer) (tally_of l.writer) l.fn.turns l.turns;
}
