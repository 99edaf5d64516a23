use Rattle.std.proofs.Common.{◌≡◌, ◌≤◌, take}
use Rattle.ilpstream_settings.specs.Faults.{line_ends}
use Rattle.ilpstream_settings.proofs.fault.line_ends.Given as goal

abbrev pub invariant-loop-index : goal.invariant-loop-index
invariant-loop-index l = record {
  counted : l.count ≡ line_ends (take l.index l.bytes);
  bounded : l.count ≤ l.index;
}
