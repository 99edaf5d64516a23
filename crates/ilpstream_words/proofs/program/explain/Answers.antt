use Rattle.std.proofs.Common.{◌≡◌, ◌∙◌, ℕ, ap, codes, rules}
use Rattle.ilpstream_words.specs.Program.{number_place_rule, with_required}
use Rattle.ilpstream_words.proofs.program.explain.Goals as goal

pub returns : goal.returns
returns c =
    let most : c.from-most.result ≡ 255 = search rules in
    let byte = c.placed_number.ensures.rule ∙ ap (λ (n : ℕ). number_place_rule (codes "number") 0 n) most in
    c.with.ensures _ (c.required-number.ensures.rule ∙ ap with_required byte) _ c.named-command.ensures.shape
