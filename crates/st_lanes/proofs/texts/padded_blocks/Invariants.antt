use Rattle.std.proofs.Common.{◌≡◌, ℕ, ◌<◌, length, map, slice_index_or, []}
use Rattle.st_lanes.specs.Lanes.{text}
use Rattle.st_lanes.specs.Padded.{block_behind, count_behind}
use Rattle.st_lanes.proofs.texts.padded_blocks.Given as goal

abbrev pub invariant-lanes : goal.invariant-lanes
invariant-lanes l = (length l.blocks ≡ 8) × ((k : ℕ) → k < l.at → l.i < count_behind l.before (text (map (λ t. t.now) l.texts) k) → slice_index_or l.blocks k [] ≡ block_behind l.before (text (map (λ t. t.now) l.texts) k) l.i)
