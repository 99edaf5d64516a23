use Rattle.std.proofs.Common.{◌≡◌}
use Rattle.std.specs.Prelude.{IsSome}
use Rattle.st_devices.specs.Tallies.{device_of, tally_of}
use Rattle.ilpstream_ends.specs.Keeping.{IsUpToDate}
use Rattle.ilpstream_ends.proofs.receive.judge_all.Given as goal

abbrev pub invariant-requests : goal.invariant-requests
invariant-requests g l = record {
  kept : IsUpToDate l.fn.receiver.end (g.W.Write.contents (device_of l.fn.writer)) l.receiver.end (g.W.Write.contents (device_of l.writer)) l.written;
  faults : (tally_of l.writer).faults ≡ (tally_of l.fn.writer).faults;
  patient : IsSome l.patience.time → IsSome l.shared.terms.patience;
}
