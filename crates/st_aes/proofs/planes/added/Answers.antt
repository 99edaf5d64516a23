use Rattle.std.proofs.Common.{arith}
use Rattle.st_aes.proofs.Steps.{same_bits, added_is, xors}
use Rattle.st_aes.proofs.planes.added.Goals as goal

pub returns : goal.returns
unfolding xors
returns c j few =
    added_is 16 c.args.q c.args.k _ 0 j (omega arith) (λ l lt. same_bits _ _ _ _ _ _ _ _ _ _ _ _ _ _ _ _ (c.xor.ensures l j lt) (c.xor-2.ensures l j lt) (c.xor-3.ensures l j lt) (c.xor-4.ensures l j lt) (c.xor-5.ensures l j lt) (c.xor-6.ensures l j lt) (c.xor-7.ensures l j lt) (c.xor-8.ensures l j lt))
