use Rattle.std.proofs.Common.{rules, ◌≡◌, ◌∙◌, sym, ap, ℕ, List, length, map, arith}
use Rattle.std.proofs.lemmas.List.{length-map}
use Rattle.st_lanes.specs.Lanes.{text}
use Rattle.st_lanes.specs.Mac.{IsKeyedBy, hmac_under}
use Rattle.st_lanes.proofs.Behind.{mapped, placed, text_at}
use Rattle.st_lanes.proofs.mac.Keyed.hmacs_in_turn.Goals as goal

pub turns-preserved : goal.turns-preserved
turns-preserved c =
    let texts : List (List ℕ) = map (λ t. t.now) c.args.texts.now in
    let At : ℕ → List ℕ → Type 0 = λ j x. (key : List ℕ) → IsKeyedBy key c.args.self.now → x ≡ hmac_under key (text texts j) in (
      search rules,
      λ k lt. placed At _ c.turns.at k c.hmac.result (omega arith) lt c.turns.invariant.1
          (λ key held. c.hmac.ensures key held ∙ ap (λ (m : List ℕ). hmac_under key m) (sym (text_at c.args.texts.now (λ t. t.now) c.turns.at _ (omega arith)))),
    )

pub returns : goal.returns
returns c = λ key held.
    let texts : List (List ℕ) = map (λ t. t.now) c.args.texts.now in
    let long : length texts ≡ length c.args.texts.now = length-map c.args.texts.now (λ t. t.now) in
    mapped (hmac_under key) texts _ (omega (arith, long)) (λ l inside. c.turns.invariant.1 l (omega (arith, long)) key held)
