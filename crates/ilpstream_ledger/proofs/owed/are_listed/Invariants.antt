use Rattle.std.proofs.Common.{◌≡◌, ◌≢◌, ℕ, ◌<◌, List, map, slice_get, Some}
use Rattle.std.specs.Prelude.{string_bytes}
use Rattle.st_hop_books.specs.Sums.{nothing, amounts_at}
use Rattle.ilpstream_ledger.proofs.owed.are_listed.Given as goal

abbrev pub invariant-loop-at : goal.invariant-loop-at
invariant-loop-at g l = (k : ℕ) (name : List ℕ) → k < l.at → slice_get l.books.names k ≡ Some name → amounts_at l.books.amounts k ≢ nothing
    → (line : ℕ) × (slice_get (map string_bytes l.table) line ≡ Some name)
