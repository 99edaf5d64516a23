use Rattle.std.proofs.Common.{ℕ, get_or, bit_xor, ap, ◌∙◌}
use Rattle.st_aes.proofs.factor_tables.lower.Goals as goal

pub returns : goal.returns
returns c l lt =
    c.added.ensures l lt ∙ ap (λ (n : ℕ). bit_xor n (get_or c.raised.result l 0)) (c.high.ensures l lt) ∙ ap (bit_xor _) (c.raised.ensures l lt)
