use Rattle.std.proofs.Common.{◌≡◌, ℕ, ◌<◌, length, slice_index_or, []}
use Rattle.st_lanes.specs.Padded.{block_behind}
use Rattle.st_lanes.proofs.mac.digest_blocks.Given as goal

abbrev pub invariant-lanes : goal.invariant-lanes
invariant-lanes l = (length l.blocks ≡ 8) × ((k : ℕ) → k < l.at → slice_index_or l.blocks k [] ≡ block_behind 64 (slice_index_or l.digests k []) 0)
