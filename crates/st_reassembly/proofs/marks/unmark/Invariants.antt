use Rattle.std.proofs.Common.{◌≡◌, ℕ, ◌*◌, ◌<◌, ◌&&◌, length}
use Rattle.std.specs.Prelude.{not, nat_lt}
use Rattle.st_streams.specs.Table.{is_between}
use Rattle.st_reassembly.specs.Ring.{is_marked}
use Rattle.st_reassembly.proofs.marks.unmark.Given as goal

-- the words before this one are done
abbrev pub invariant-loop-word : goal.invariant-loop-word
invariant-loop-word g l = record {
  words : length l.marks.items ≡ 1024;
  unmarked : (k : ℕ) → k < 65536 → is_marked l.marks.items k ≡ (not (is_between l.from l.to k && nat_lt k (64 * l.word)) && is_marked l.fn.marks.items k);
}
