use Rattle.std.proofs.Common.{◌≡◌}
use Rattle.std.specs.Io.KnownBytes.{Keeps}
use Rattle.st_devices.specs.Tallies.{TakesTurns, device_of, tally_of}
use Rattle.ilpstream_output.proofs.output.flush.Given as goal

abbrev pub decreases-loop-turns : goal.decreases-loop-turns
decreases-loop-turns g l = l.turns

abbrev pub invariant-loop-turns : goal.invariant-loop-turns
invariant-loop-turns g l = record {
  kept : Keeps (g.W.Write.contents (device_of l.fn.writer)) (g.W.Write.contents (device_of l.writer));
  faults : (tally_of l.writer).faults ≡ (tally_of l.fn.writer).faults;
  spent : TakesTurns (tally_of l.fn.writer) (tally_of l.writer) l.fn.turns l.turns;
}
