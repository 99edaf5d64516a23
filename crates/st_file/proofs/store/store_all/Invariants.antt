use Rattle.std.proofs.Common.{◌≡◌, []}
use Rattle.st_devices.specs.Tallies.{device_of, tally_of}
use Rattle.st_file.specs.Stores.{Stored}
use Rattle.st_file.specs.Spending.{Spends}
use Rattle.st_file.proofs.store.store_all.Given as goal

abbrev pub invariant-loop-bytes : goal.invariant-loop-bytes
invariant-loop-bytes g l = record {
  stored : Stored (record { before = g.W.Write.contents (device_of l.fn.writer); after = g.W.Write.contents (device_of l.writer); old = g.S.Source.given l.fn.source; new = g.S.Source.given l.source }) l.written [];
  faults : (tally_of l.writer).faults ≡ (tally_of l.fn.writer).faults;
  spent : Spends (tally_of l.fn.writer) (tally_of l.writer) (g.S.Source.given l.fn.source).calls (g.S.Source.given l.source).calls l.turns l.left;
}

abbrev pub decreases-loop-bytes : goal.decreases-loop-bytes
decreases-loop-bytes g l = l.left
