use Rattle.std.proofs.Common.{◌^◌, ◌<◌, ℕ, ap, ◌∙◌, arith}
use Rattle.st_aes.specs.BlockField.{repeated}
use Rattle.st_aes.proofs.Linear.{fourth_of_fourth}
use Rattle.st_aes.proofs.block_field.sixteenth.Goals as goal

pub returns : goal.returns
returns c = λ h.
    let y = c.args.y in
    let first = h.upper 0 (omega arith) in
    let top = c.fits-high 0 in
    let small : y < 2 ^ 128 = omega (arith, first, top) in
    c.fourth.ensures c.put_powers.ensures ∙ ap (λ (g : ℕ). repeated g 3 g) (c.fourth-root.ensures h) ∙ fourth_of_fourth y small
