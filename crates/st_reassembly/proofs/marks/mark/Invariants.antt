use Rattle.std.proofs.Common.{◌≡◌, ℕ, ◌*◌, ◌<◌, ◌&&◌, ◌||◌, length}
use Rattle.std.specs.Prelude.{nat_lt}
use Rattle.st_streams.specs.Table.{is_between}
use Rattle.st_reassembly.specs.Ring.{is_marked}
use Rattle.st_reassembly.proofs.marks.mark.Given as goal

-- the words before this one are done
abbrev pub invariant-loop-word : goal.invariant-loop-word
invariant-loop-word g l = record {
  words : length l.marks.items ≡ 1024;
  marked : (k : ℕ) → k < 65536 → is_marked l.marks.items k ≡ ((is_between l.from l.to k && nat_lt k (64 * l.word)) || is_marked l.fn.marks.items k);
}
