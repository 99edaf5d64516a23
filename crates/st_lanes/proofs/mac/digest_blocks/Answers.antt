use Rattle.std.proofs.Common.{rules, ◌≡◌, ℕ, List, [], slice_index_or, refl, arith}
use Rattle.st_lanes.specs.Padded.{block_behind}
use Rattle.st_lanes.proofs.Behind.{placed}
use Rattle.st_lanes.proofs.Ends.{some_behind}
use Rattle.st_lanes.proofs.mac.digest_blocks.Goals as goal

pub lanes-preserved : goal.lanes-preserved
lanes-preserved c =
    let digests : List (List ℕ) = c.args.digests.now in
    let At : ℕ → List ℕ → Type 0 = λ j x. x ≡ block_behind 64 (slice_index_or digests j []) 0 in (
      search rules,
      λ k lt. placed At _ c.lanes.at k c.padded_block.result (omega arith) lt c.lanes.invariant.1
          (c.padded_block.ensures (some_behind 64 (slice_index_or digests c.lanes.at []) refl)),
    )
