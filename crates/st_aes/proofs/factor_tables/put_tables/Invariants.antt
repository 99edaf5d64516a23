use Rattle.std.proofs.Common.{◌≡◌, ℕ, ◌+◌, ◌*◌, ◌/◌, ◌%◌, ◌<◌, length, slice_index}
use Rattle.std.specs.Int.{w128, to_be_bytes}
use Rattle.st_aes.specs.BlockField.{block_times_power, four_bits}
use Rattle.st_aes.specs.Rows.{IsMultiples}
use Rattle.st_aes.proofs.factor_tables.put_tables.Given as goal

abbrev pub invariant-loop-i : goal.invariant-loop-i
invariant-loop-i l = record {
  long : length l.out ≡ 8192;
  done : (i b n : ℕ) → i < l.i → b < 16 → n < 16 → slice_index l.out (256 * i + 32 * (b % 8) + 16 * (b / 8) + n) ≡ slice_index (to_be_bytes w128 (four_bits (block_times_power l.fn.y) i n)) b;
  rows : IsMultiples l.rows l.fn.y l.i;
}
