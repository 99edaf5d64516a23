use Rattle.std.proofs.Common.{◌≡◌, ℕ, ◌<◌, length, slice_index_or, []}
use Rattle.sha2.specs.Sha256.{digest_bytes}
use Rattle.st_lanes.specs.Lanes.{lane}
use Rattle.st_lanes.proofs.mac.put_digests.Given as goal

abbrev pub invariant-lanes : goal.invariant-lanes
invariant-lanes l = (length l.out ≡ length l.fn.out) × ((k : ℕ) → k < l.at → slice_index_or l.out k [] ≡ digest_bytes (lane 8 l.states k) 8)
