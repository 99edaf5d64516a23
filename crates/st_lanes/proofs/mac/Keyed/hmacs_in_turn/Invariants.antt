use Rattle.std.proofs.Common.{◌≡◌, ℕ, List, ◌<◌, length, map, slice_index_or, []}
use Rattle.st_lanes.specs.Lanes.{text}
use Rattle.st_lanes.specs.Mac.{IsKeyedBy, hmac_under}
use Rattle.st_lanes.proofs.mac.Keyed.hmacs_in_turn.Given as goal

abbrev pub invariant-turns : goal.invariant-turns
invariant-turns l =
    (length l.out ≡ length l.texts)
    × ((k : ℕ) → k < l.at → (key : List ℕ) → IsKeyedBy key l.self → slice_index_or l.out k [] ≡ hmac_under key (text (map (λ t. t.now) l.texts) k))
