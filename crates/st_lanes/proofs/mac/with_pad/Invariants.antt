use Rattle.std.proofs.Common.{◌≡◌, ◌≤◌, ℕ, length, take, get_or, map, bit_xor}
use Rattle.st_lanes.proofs.mac.with_pad.Given as goal

abbrev pub invariant-loop-byte : goal.invariant-loop-byte
invariant-loop-byte l = (length l.byte-items ≡ 64) × (take l.byte-index l.byte-items ≡ map (λ x. bit_xor x l.pad) (take l.byte-index l.fn.key)) × ((k : ℕ) → l.byte-index ≤ k → get_or l.byte-items k 0 ≡ get_or l.fn.key k 0)
