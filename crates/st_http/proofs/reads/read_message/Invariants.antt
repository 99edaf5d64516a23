use Rattle.std.proofs.Common.{◌≡◌, length}
use Rattle.std.specs.Io.KnownBytes.{Consumes}
use Rattle.st_devices.specs.Tallies.{TakesTurns, device_of, tally_of}
use Rattle.st_http.specs.Message.{Says}
use Rattle.st_http.specs.Progress.{IsTaken}
use Rattle.st_http.proofs.reads.read_message.Given as goal

abbrev pub invariant-reads : goal.invariant-reads
invariant-reads g l = record {
  expected : l.reading.expected ≡ l.fn.reading.expected;
  read : Consumes (g.S.Read.remaining (device_of l.fn.stream)) (g.S.Read.remaining (device_of l.stream)) l.reading.taken;
  says : Says l.reading.expected l.reading.taken l.reading.standing;
  taken : IsTaken l.reading.standing;
  room : length l.piece ≡ 4096;
  faults : (tally_of l.stream).faults ≡ (tally_of l.fn.stream).faults;
  spent : TakesTurns (tally_of l.fn.stream) (tally_of l.stream) l.fn.turns l.turns;
}

abbrev pub decreases-reads : goal.decreases-reads
decreases-reads g l = l.turns
