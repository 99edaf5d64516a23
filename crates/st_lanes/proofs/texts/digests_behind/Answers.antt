use Rattle.std.proofs.Common.{◌≡◌, ◌+◌, ◌<◌, ◌≤◌, ◌∙◌, sym, ℕ, List, length, map, arith}
use Rattle.sha2.specs.Sha256.{hash_after}
use Rattle.st_lanes.specs.Lanes.{lane, text}
use Rattle.st_lanes.specs.Padded.{count_behind, padded_behind}
use Rattle.st_lanes.proofs.Behind.{turned}
use Rattle.st_lanes.proofs.Ends.{some_behind}
use Rattle.st_lanes.proofs.Words.{hash_next}
use Rattle.st_lanes.proofs.texts.digests_behind.Goals as goal

pub turns-init : goal.turns-init
unfolding hash_after
turns-init c =
    let texts : List (List ℕ) = map (λ t. t.now) c.args.texts.now in (
      c.requires.places,
      λ k inside le. c.in_each_lane-states.ensures k (omega arith),
      λ k inside le. absurd (omega (arith, some_behind c.args.before (text texts k) c.requires.whole)),
    )

pub turns-preserved : goal.turns-preserved
turns-preserved c =
    let texts : List (List ℕ) = map (λ t. t.now) c.args.texts.now in
    let next : (k : ℕ) → k < length c.args.texts.now → c.turns.i + 1 ≤ count_behind c.args.before (text texts k)
    → lane 8 c.compress-next.result k ≡ hash_after c.args.start (padded_behind c.args.before (text texts k)) (c.turns.i + 1) = λ k inside le.
    hash_next _ _ _ _ _ c.turns.i (c.turns.invariant.1 k inside (omega arith)) (c.padded_blocks-blocks.ensures k inside (omega arith)) (c.compress-next.ensures k (omega arith)) in (
      c.put_ended.ensures.places ∙ c.turns.invariant.0,
      next,
      λ k inside le. turned c.args.start c.args.before c.turns.i (text texts k) _ _ _ le (c.turns.invariant.2 k inside) (next k inside)
          (c.put_ended.ensures.ended c.args.before k c.requires.whole inside) (c.put_ended.ensures.other c.args.before k c.requires.whole inside),
    )

pub returns-clause-each : goal.returns-clause-each
returns-clause-each c = λ l inside. c.turns.invariant.2 l inside (omega (arith, c.longest-i-end.ensures c.args.before l c.requires.whole inside))

pub returns-clause-places : goal.returns-clause-places
returns-clause-places c = c.turns.invariant.0 ∙ sym c.requires.places
