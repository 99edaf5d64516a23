use Rattle.std.proofs.Common.{◌≡◌, ℕ, List, Option}
use Rattle.st_devices.specs.Tallies.{device_of, tally_of}
use Rattle.st_end.specs.State.{EndState}
use Rattle.ilpstream_ends.specs.Keeping.{Kept}
use Rattle.ilpstream_ends.proofs.delivery.deliver.Given as goal

abbrev pub invariant-loop-turns : goal.invariant-loop-turns
invariant-loop-turns g l = record {
  kept : (start : EndState) (before : Option (List ℕ)) → Kept start before l.fn.end (g.W.Write.contents (device_of l.fn.writer)) l.fn.written → Kept start before l.end (g.W.Write.contents (device_of l.writer)) l.written;
  faults : (tally_of l.writer).faults ≡ (tally_of l.fn.writer).faults;
}

abbrev pub decreases-loop-turns : goal.decreases-loop-turns
decreases-loop-turns g l = l.turns
