use Rattle.std.proofs.Common.{ℕ, List, ap, ◌∙◌, arith}
use Rattle.st_aes.specs.Planes.{bits}
use Rattle.st_aes.specs.SBox.{quarter, quarter_inverse, products, sums, sub_bits}
use Rattle.st_aes.proofs.Steps.{substituted_is}
use Rattle.st_aes.proofs.wide_planes.substituted.Goals as goal

pub returns : goal.returns
unfolding sub_bits
returns c g j two few =
    substituted_is 32 c.args.q c.sums.result g j (omega arith) (λ l lt.
    c.sums.ensures l j lt few
    ∙ ap sums (c.products.ensures l j lt ∙ ap (products (bits 22 c.factors-y.result l j)) (c.quarter_inverse.ensures l j lt ∙ ap quarter_inverse (c.quarter.ensures l j lt))
    ∙ ap (λ (y : List ℕ). products y (quarter_inverse (quarter y))) (c.factors-y.ensures l j lt)))
