use Rattle.std.proofs.Common.{◌≡◌, ℕ, ◌<◌, length, map, slice_index_or, []}
use Rattle.sha2.specs.Sha256.{sha256}
use Rattle.st_lanes.specs.Lanes.{text}
use Rattle.st_lanes.proofs.texts.digests_in_turn.Given as goal

abbrev pub invariant-turns : goal.invariant-turns
invariant-turns l = (length l.out ≡ length l.texts) × ((k : ℕ) → k < l.at → slice_index_or l.out k [] ≡ sha256 (text (map (λ t. t.now) l.texts) k))
