use Rattle.std.proofs.Common.{◌≡◌, ℕ, ◌+◌, ◌*◌, ◌/◌, ◌%◌, ◌<◌, length, slice_index}
use Rattle.st_aes.specs.Planes.{plane}
use Rattle.st_aes.proofs.wide_pass.store_all.Given as goal

abbrev pub invariant-loop-j : goal.invariant-loop-j
invariant-loop-j l = record {
  long : length l.out ≡ length l.fn.out;
  done : (i : ℕ) → i < 32 * l.j → slice_index l.out (l.at + i) ≡ slice_index (plane l.v (i / 32)) (i % 32);
  before : (k : ℕ) → k < l.at → slice_index l.out k ≡ slice_index l.fn.out k;
}
