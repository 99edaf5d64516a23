use Rattle.std.proofs.Common.{◌≡◌, ◌++◌, take, drop}
use Rattle.ilpstream_log.specs.Quoting.{fitting, most_quoted}
use Rattle.ilpstream_log.proofs.quote.fitting.Given as goal

abbrev pub invariant-loop-byte : goal.invariant-loop-byte
invariant-loop-byte l = record {
  kept : l.kept ≡ l.byte-index;
  front : fitting most_quoted l.text ≡ take l.byte-index l.text ++ fitting l.left (drop l.byte-index l.text);
}
