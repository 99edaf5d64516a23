use Rattle.std.proofs.Common.{◌≤◌, ◌<◌, ◌+◌, ℕ, slice_index, slice_index_or}
use Rattle.st_hop.specs.Hop.{no_account}
use Rattle.ilpstream_ledger.proofs.owed.are_within.Given as goal

abbrev pub invariant-loop-at : goal.invariant-loop-at
invariant-loop-at l = (k : ℕ) → k < l.at → slice_index l.owed.claims.items k ≤ (slice_index_or l.accounts k no_account).limit + slice_index l.owed.dues.items k
