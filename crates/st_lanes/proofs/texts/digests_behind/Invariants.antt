use Rattle.std.proofs.Common.{◌≡◌, ℕ, ◌<◌, ◌≤◌, length, map, slice_index_or, []}
use Rattle.sha2.specs.Sha256.{hash_after}
use Rattle.st_lanes.specs.Lanes.{lane, text}
use Rattle.st_lanes.specs.Padded.{count_behind, digest_behind, padded_behind}
use Rattle.st_lanes.proofs.texts.digests_behind.Given as goal

abbrev pub invariant-turns : goal.invariant-turns
invariant-turns l =
    (length l.out ≡ length l.texts)
    × ((k : ℕ) → k < length l.texts → l.i ≤ count_behind l.before (text (map (λ t. t.now) l.texts) k)
    → lane 8 l.states k ≡ hash_after l.fn.start (padded_behind l.before (text (map (λ t. t.now) l.texts) k)) l.i)
    × ((k : ℕ) → k < length l.texts → count_behind l.before (text (map (λ t. t.now) l.texts) k) ≤ l.i
    → slice_index_or l.out k [] ≡ digest_behind l.fn.start l.before (text (map (λ t. t.now) l.texts) k))
