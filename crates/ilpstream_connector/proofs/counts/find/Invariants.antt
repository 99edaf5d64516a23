use Rattle.std.proofs.Common.{◌≡◌, ◌<◌, ℕ, slice_get, Some}
use Rattle.ilpstream_connector.specs.declared.counts.CodeCount.{CodeCount}
use Rattle.ilpstream_connector.specs.Counts.{rank_of}
use Rattle.ilpstream_connector.proofs.counts.find.Given as goal

abbrev pub invariant-loop-place : goal.invariant-loop-place
invariant-loop-place l = (k : ℕ) (x : CodeCount) → k < l.place → slice_get l.codes k ≡ Some x → rank_of x < l.rank_of
