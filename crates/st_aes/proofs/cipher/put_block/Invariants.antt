use Rattle.std.proofs.Common.{◌≡◌, ℕ, ◌+◌, ◌*◌, ◌<◌, ◌≤◌, length, slice_index}
use Rattle.st_aes.proofs.cipher.put_block.Given as goal

abbrev pub invariant-loop-j : goal.invariant-loop-j
invariant-loop-j l = record {
  long : length l.out ≡ length l.fn.out;
  done : (k : ℕ) → k < l.j → slice_index l.out (16 * l.m + k) ≡ slice_index l.block k;
  before : (k : ℕ) → k < 16 * l.m → slice_index l.out k ≡ slice_index l.fn.out k;
  behind : (k : ℕ) → 16 * l.m + l.j ≤ k → slice_index l.out k ≡ slice_index l.fn.out k;
}
