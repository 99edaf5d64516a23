-- A limit, as this profile reads it: a VarUInt of any length, in which a number that does not fit means the greatest number.
use Rattle.std.specs.Prelude.{◌≢◌, ◌<◌, ◌^◌, ◌-◌, ℕ, List, length, slice_index}
use Rattle.st_oer.specs.Spelling.{octets, var_uint}

-- the bytes spell the limit: a VarUInt, or more than eight bytes with no 0 in front
pub data IsLimit : ℕ → List ℕ → Type 0 where
  is_small : (n : ℕ) → n < 2 ^ 64 → IsLimit n (var_uint n)
  is_large : (digits : List ℕ) → 8 < length digits → length digits < 2 ^ 64 → slice_index digits 0 ≢ 0 → IsLimit (2 ^ 64 - 1) (octets digits)
