use Rattle.std.proofs.Common.{◌<◌, take, sym, ap, ◌∙◌, arith}
use Rattle.st_aes.specs.Cipher.{sub_bytes}
use Rattle.st_aes.specs.Planes.{plane, half}
use Rattle.st_aes.proofs.Tables.{spelled_out}
use Rattle.st_aes.proofs.Steps.{half_is}
use Rattle.st_aes.proofs.cipher.sub_word.Goals as goal

pub returns : goal.returns
unfolding half
returns c =
    let w = c.args.word in
    let low : 0 < 8 = omega arith in
    let first = plane c.transposed.result 0 in
    let out = half_is 16 first c.substituted.result 0 0 (omega arith) (λ l b lt less. sym (c.transposed.ensures.bits 0 l b low lt less)) (λ l lt. c.transposed.ensures.bytes 0 l low) in
    ap (take 4) (sym out ∙ c.substituted.ensures 0 low ∙ ap sub_bytes (c.planes_of-q.ensures 0 low)) ∙ ap sub_bytes (sym (spelled_out w 4 (omega arith)))
