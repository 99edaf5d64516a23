use Rattle.std.proofs.Common.{◌≡◌, ℕ, ◌+◌, ◌*◌, ◌/◌, ◌%◌, ◌<◌, length, slice_index}
use Rattle.st_aes.specs.Gcm.{counter_block}
use Rattle.st_aes.proofs.gcm.put_counter_blocks.Given as goal

abbrev pub invariant-loop-m : goal.invariant-loop-m
invariant-loop-m l = record {
  long : length l.out ≡ length l.fn.out;
  done : (i : ℕ) → i < 16 * l.m → slice_index l.out i ≡ slice_index (counter_block l.iv (l.first + i / 16)) (i % 16);
}
