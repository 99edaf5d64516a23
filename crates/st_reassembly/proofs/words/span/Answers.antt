use Rattle.std.proofs.Common.{◌≡◌, ℕ, ◌∙◌, ◌-◌, ◌&&◌, ap, arith}
use Rattle.std.specs.Prelude.{nat_lt, nat_le, not}
use Rattle.std.proofs.lemmas.Bool.Decides.{nat_tests}
use Rattle.st_reassembly.specs.Ring.{has_bit}
use Rattle.st_reassembly.proofs.Bits.{has_bit-and, has_bit-not}
use Rattle.st_reassembly.proofs.words.span.Goals as goal

between_tests : (low high i : ℕ) → (nat_lt i high && not (nat_lt i low)) ≡ (nat_le low i && nat_lt i high)
between_tests low high i = grind (arith, nat_tests)

pub returns : goal.returns
returns c i l =
    has_bit-and c.ones.result (18446744073709551615 - c.ones-2.result) i
    ∙ ap (λ b. b && has_bit (18446744073709551615 - c.ones-2.result) i) (c.ones.ensures i l)
    ∙ ap (λ b. nat_lt i c.args.high && b) (has_bit-not c.ones-2.result i (omega arith) l ∙ ap not (c.ones-2.ensures i l))
    ∙ between_tests c.args.low c.args.high i
