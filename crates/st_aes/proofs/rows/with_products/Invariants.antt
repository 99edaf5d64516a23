use Rattle.std.proofs.Common.{ℕ, ◌+◌, ◌<◌, ◌^◌, slice_index}
use Rattle.st_aes.specs.Planes.{plane}
use Rattle.st_aes.specs.Rows.{HasTables}
use Rattle.st_aes.proofs.Sixteen.{Summed}
use Rattle.st_aes.proofs.rows.with_products.Given as goal

abbrev pub invariant-front : goal.invariant-front
invariant-front l = record {
  bytes : (k i : ℕ) → k < 8 → slice_index (plane l.acc k) i < 256;
  sum : (y : ℕ) → y < 2 ^ 128 → HasTables l.t y → Summed l.fn.start l.rows l.acc y l.k;
}

abbrev pub invariant-back : goal.invariant-back
invariant-back l = record {
  bytes : (k i : ℕ) → k < 8 → slice_index (plane l.acc k) i < 256;
  sum : (y : ℕ) → y < 2 ^ 128 → HasTables l.t y → Summed l.fn.start l.rows l.acc y (8 + l.k);
}
