-- What each map has at each number.
use Rattle.std.specs.Prelude.{◌≡◌, ◌↔◌, ℕ, ◌+◌, ◌-◌, if◌then◌else◌, List, length, slice_index, Option, Some, None}
use Rattle.std.specs.Ordering.{nat_cmp}
use Rattle.std.specs.FinMap.{FinMap, get}
use Rattle.st_streams.specs.Table.{is_between, table, put_bytes, put_same}

abbrev pub TableIsPointwise : Type 0
TableIsPointwise = (f : ℕ → Option ℕ) (first n : ℕ) (m : FinMap nat_cmp ℕ) → ((q : ℕ) → get m q ≡ (if is_between first (first + n) q then f q else None)) ↔ (m ≡ table f first n)

abbrev pub BytesArePutPointwise : Type 0
BytesArePutPointwise = (m : FinMap nat_cmp ℕ) (offset : ℕ) (xs : List ℕ) (q : ℕ)
    → get (put_bytes m offset xs) q ≡ (if is_between offset (offset + length xs) q then Some (slice_index xs (q - offset)) else get m q)

abbrev pub SameIsPutPointwise : Type 0
SameIsPutPointwise = (m : FinMap nat_cmp ℕ) (offset n x q : ℕ) → get (put_same m offset n x) q ≡ (if is_between offset (offset + n) q then Some x else get m q)
