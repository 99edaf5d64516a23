use Rattle.std.proofs.Common.{rules, ◌≡◌, ℕ, ◌<◌, List, map, arith}
use Rattle.st_lanes.specs.Lanes.{text}
use Rattle.st_lanes.specs.Padded.{block_behind, count_behind}
use Rattle.st_lanes.proofs.Behind.{block_at, placed, text_at}
use Rattle.st_lanes.proofs.texts.padded_blocks.Goals as goal

pub lanes-preserved : goal.lanes-preserved
lanes-preserved c =
    let texts : List (List ℕ) = map (λ t. t.now) c.args.texts.now in
    let At : ℕ → List ℕ → Type 0 = λ j x. c.args.i < count_behind c.args.before (text texts j) → x ≡ block_behind c.args.before (text texts j) c.args.i in (
      search rules,
      λ k lt. placed At _ c.lanes.at k c.padded_block.result (omega arith) lt c.lanes.invariant.1
          (block_at c.args.before c.args.i _ _ _ (text_at c.args.texts.now (λ t. t.now) c.lanes.at _ (omega arith)) c.padded_block.ensures),
    )
