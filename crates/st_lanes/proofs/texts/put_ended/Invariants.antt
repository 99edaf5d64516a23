use Rattle.std.proofs.Common.{◌≡◌, ℕ, ◌%◌, ◌<◌, ◌≤◌, length, map, slice_index_or, []}
use Rattle.sha2.specs.Sha256.{digest_bytes}
use Rattle.st_lanes.specs.Lanes.{lane, text}
use Rattle.st_lanes.specs.Padded.{count_behind}
use Rattle.st_lanes.proofs.texts.put_ended.Given as goal

abbrev pub invariant-lanes : goal.invariant-lanes
invariant-lanes l =
    (length l.out ≡ length l.fn.out)
    × ((k : ℕ) → k < l.at → (n : ℕ) → n % 64 ≡ 0
    → (count_behind n (text (map (λ t. t.now) l.texts) k) ≡ l.done → slice_index_or l.out k [] ≡ digest_bytes (lane 8 l.states k) 8)
    × (¬ (count_behind n (text (map (λ t. t.now) l.texts) k) ≡ l.done) → slice_index_or l.out k [] ≡ slice_index_or l.fn.out k []))
    × ((k : ℕ) → l.at ≤ k → slice_index_or l.out k [] ≡ slice_index_or l.fn.out k [])
