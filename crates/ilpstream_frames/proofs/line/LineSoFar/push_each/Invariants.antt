use Rattle.std.proofs.Common.{◌≤◌, ◌+◌, ◌++◌, List, ℕ, take}
use Rattle.ilpstream_frames.specs.LineSoFar.{StandsFor}
use Rattle.ilpstream_frames.proofs.line.LineSoFar.push_each.Given as goal

abbrev pub invariant-loop-byte : goal.invariant-loop-byte
invariant-loop-byte g l = record {
  stands : (line : List ℕ) → StandsFor l.fn.self line → StandsFor l.self (line ++ take l.byte-index l.bytes);
  count : l.self.count ≤ l.fn.self.count + l.byte-index;
}
