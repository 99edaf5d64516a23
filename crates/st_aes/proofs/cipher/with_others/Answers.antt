use Rattle.std.proofs.Common.{◌≡◌, length, ◌∙◌, ap, arith}
use Rattle.std.proofs.lemmas.List.{take-append-le, take_all}
use Rattle.st_aes.proofs.cipher.with_others.Goals as goal

pub returns : goal.returns
returns c =
    let new = c.copy_from_slice.new.self in
    let is : new ≡ c.args.block = c.copy_from_slice.ensures.after in
    let long : length new ≡ 16 = ap length is ∙ (omega arith) in
    take-append-le 16 new _ (omega (arith, long)) ∙ take_all 16 new (omega (arith, long)) ∙ is
