use Rattle.std.proofs.Common.{◌≡◌, ◌≤◌, length}
use Rattle.std.specs.Io.KnownBytes.{Consumes}
use Rattle.st_devices.specs.Tallies.{TakesTurns, device_of, tally_of}
use Rattle.ilpstream_local.specs.Endings.{most_bytes}
use Rattle.ilpstream_local.proofs.input.read_input.Given as goal

abbrev pub decreases-loop-turns : goal.decreases-loop-turns
decreases-loop-turns g l = l.turns

abbrev pub invariant-loop-turns : goal.invariant-loop-turns
invariant-loop-turns g l = record {
  bytes : Consumes (g.R.Read.remaining (device_of l.fn.reader)) (g.R.Read.remaining (device_of l.reader)) l.input.items;
  short : length l.input.items ≤ most_bytes;
  faults : (tally_of l.reader).faults ≡ (tally_of l.fn.reader).faults;
  spent : TakesTurns (tally_of l.fn.reader) (tally_of l.reader) l.fn.turns l.turns;
}
