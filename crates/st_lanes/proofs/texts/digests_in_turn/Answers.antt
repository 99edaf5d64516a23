use Rattle.std.proofs.Common.{rules, ◌≡◌, ◌∙◌, sym, ap, ℕ, List, length, map, arith}
use Rattle.std.proofs.lemmas.List.{length-map}
use Rattle.sha2.specs.Sha256.{sha256}
use Rattle.st_lanes.specs.Lanes.{text}
use Rattle.st_lanes.proofs.Behind.{mapped, placed, text_at}
use Rattle.st_lanes.proofs.texts.digests_in_turn.Goals as goal

pub turns-preserved : goal.turns-preserved
turns-preserved c =
    let texts : List (List ℕ) = map (λ t. t.now) c.args.texts.now in
    let At : ℕ → List ℕ → Type 0 = λ j x. x ≡ sha256 (text texts j) in (
      search rules,
      λ k lt. placed At _ c.turns.at k c.digest.result (omega arith) lt c.turns.invariant.1
          (c.digest.ensures ∙ ap (λ (m : List ℕ). sha256 m) (sym (text_at c.args.texts.now (λ t. t.now) c.turns.at _ (omega arith)))),
    )

pub returns : goal.returns
returns c =
    let texts : List (List ℕ) = map (λ t. t.now) c.args.texts.now in
    let long : length texts ≡ length c.args.texts.now = length-map c.args.texts.now (λ t. t.now) in
    mapped sha256 texts _ (omega (arith, long)) (λ l inside. c.turns.invariant.1 l (omega (arith, long)))
