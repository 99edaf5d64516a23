use Rattle.std.proofs.Common.{◌≡◌}
use Rattle.std.specs.Io.KnownBytes.{Consumes}
use Rattle.st_devices.specs.Faults.{count_after}
use Rattle.st_devices.specs.Tallies.{device_of, tally_of}
use Rattle.ilpstream_net.proofs.input.read_whole.Given as goal

abbrev pub invariant-loop : goal.invariant-loop
invariant-loop g l = record {
  taken : Consumes (g.R.Read.remaining (device_of l.fn.reader)) (g.R.Read.remaining (device_of l.reader)) l.bytes.items;
  faults : (tally_of l.reader).faults ≡ (tally_of l.fn.reader).faults;
  calls : (tally_of l.reader).calls ≡ count_after l.counter (tally_of l.fn.reader).calls;
}
