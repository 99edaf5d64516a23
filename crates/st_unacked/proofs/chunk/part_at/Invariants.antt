use Rattle.std.proofs.Common.{◌≡◌, ℕ, ◌≤◌, true, drop}
use Rattle.st_unacked.specs.Chunks.{byte_in, covers}
use Rattle.st_unacked.proofs.chunk.part_at.Given as goal

-- no chunk so far ends past the offset
abbrev pub invariant-loop-chunk : goal.invariant-loop-chunk
invariant-loop-chunk g l = record {
  there : covers (drop l.chunk-index l.chunks.items) l.from ≡ true;
  rest : (q : ℕ) → l.from ≤ q → byte_in l.chunks.items q ≡ byte_in (drop l.chunk-index l.chunks.items) q;
}
