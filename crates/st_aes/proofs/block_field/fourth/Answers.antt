use Rattle.std.proofs.Common.{◌≡◌, ℕ, suc, ◌+◌, refl, ap, ◌∙◌, arith}
use Rattle.st_aes.specs.BlockField.{product, repeated}
use Rattle.st_aes.proofs.block_field.fourth.Goals as goal

pub loop-n-init : goal.loop-n-init
unfolding repeated
loop-n-init c = λ h. refl

pub loop-n-preserved : goal.loop-n-preserved
unfolding repeated
loop-n-preserved c = λ h.
    let l = c.loop-n in
    let y = c.args.y in
    let next : suc l.n ≡ l.n + 1 = omega arith in
    c.product-next.ensures y h ∙ ap (λ (v : ℕ). product v y) (l.invariant h) ∙ ap (λ (n : ℕ). repeated y n y) next

pub returns : goal.returns
returns c = λ h. let done : c.loop-n.n ≡ 3 = omega arith in c.loop-n.invariant h ∙ ap (λ (n : ℕ). repeated c.args.y n c.args.y) done
