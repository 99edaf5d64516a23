use Rattle.std.proofs.Common.{◌≡◌, length}
use Rattle.std.specs.Io.KnownBytes.{Keeps}
use Rattle.st_devices.specs.Tallies.{TakesTurns, device_of, tally_of}
use Rattle.st_file.proofs.send.read_piece.Given as goal

abbrev pub invariant-loop-turns : goal.invariant-loop-turns
invariant-loop-turns g l = record {
  room : length l.piece.items ≡ 4096;
  bytes : Keeps (g.R.Read.remaining (device_of l.fn.reader)) (g.R.Read.remaining (device_of l.reader));
  faults : (tally_of l.reader).faults ≡ (tally_of l.fn.reader).faults;
  spent : TakesTurns (tally_of l.fn.reader) (tally_of l.reader) l.fn.turns l.turns;
}

abbrev pub decreases-loop-turns : goal.decreases-loop-turns
decreases-loop-turns g l = l.turns
