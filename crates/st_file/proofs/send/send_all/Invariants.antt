use Rattle.std.proofs.Common.{◌≡◌, []}
use Rattle.st_devices.specs.Tallies.{device_of, tally_of}
use Rattle.st_file.specs.Sends.{SentPart}
use Rattle.st_file.specs.Spending.{Spends}
use Rattle.st_file.proofs.send.send_all.Given as goal

abbrev pub invariant-loop-piece : goal.invariant-loop-piece
invariant-loop-piece g l = record {
  sent : SentPart (record { before = g.R.Read.remaining (device_of l.fn.reader); after = g.R.Read.remaining (device_of l.reader); old = g.K.Sink.taken l.fn.sink; new = g.K.Sink.taken l.sink }) l.sent [];
  faults : (tally_of l.reader).faults ≡ (tally_of l.fn.reader).faults;
  spent : Spends (tally_of l.fn.reader) (tally_of l.reader) (g.K.Sink.taken l.fn.sink).calls (g.K.Sink.taken l.sink).calls l.turns l.left;
}

abbrev pub decreases-loop-piece : goal.decreases-loop-piece
decreases-loop-piece g l = l.left
