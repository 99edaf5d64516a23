use Rattle.std.proofs.Common.{◌∙◌, ◌<◌, ap, arith, ◌-◌, sym}
use Rattle.std.specs.Prelude.{nat_lt}
use Rattle.std.proofs.lemmas.Nat.{one_shl}
use Rattle.st_reassembly.specs.Ring.{has_bit}
use Rattle.st_reassembly.proofs.Bits.{has_bit-ones}
use Rattle.st_reassembly.proofs.words.ones.Goals as goal

pub returns-then-n-eq64 : goal.returns-then-n-eq64
returns-then-n-eq64 c i l = has_bit-ones 64 i ∙ ap (nat_lt i) (sym c.if-n-eq64.true)

pub returns-else-n-eq64 : goal.returns-else-n-eq64
returns-else-n-eq64 c i l =
    let few : c.args.n < 64 = omega arith in
    ap (λ b. has_bit (b - 1) i) (one_shl c.args.n 64 few) ∙ has_bit-ones c.args.n i
