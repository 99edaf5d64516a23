use Rattle.std.proofs.Common.{◌≡◌, ◌≤◌, length, take}
use Rattle.std.specs.Io.KnownBytes.{Appends}
use Rattle.st_devices.specs.Tallies.{TakesTurns, device_of, tally_of}
use Rattle.st_devices.proofs.turn.put_all.Given as goal

abbrev pub invariant-loop-sent : goal.invariant-loop-sent
invariant-loop-sent g l = record {
  within : l.sent ≤ length l.text;
  written : Appends (g.T.Write.contents (device_of l.fn.writer)) (g.T.Write.contents (device_of l.writer)) (take l.sent l.text);
  faults : (tally_of l.writer).faults ≡ (tally_of l.fn.writer).faults;
  spent : TakesTurns (tally_of l.fn.writer) (tally_of l.writer) l.fn.turns l.turns;
}

abbrev pub decreases-loop-sent : goal.decreases-loop-sent
decreases-loop-sent g l = l.turns
