use Rattle.std.proofs.Common.{ℕ, List, ap, ◌∙◌, arith}
use Rattle.st_aes.specs.Planes.{bit, half}
use Rattle.st_aes.proofs.Steps.{half_is, half_whole, eight_same}
use Rattle.st_aes.proofs.cipher.planes_of.Goals as goal

pub returns : goal.returns
returns c j few =
    let v = c.of_bytes-v.result in
    half_is 16 v c.transposed.result 0 j (omega arith) (λ l b lt less. c.transposed.ensures.bits b l j less lt few ∙ ap (λ (u : List ℕ). bit u l b) (eight_same v j few)) (λ l lt. c.of_bytes-v.ensures.bytes l)
    ∙ ap (λ (u : List ℕ). half u 0) c.of_bytes-v.ensures.same ∙ half_whole c.args.block (omega arith)
