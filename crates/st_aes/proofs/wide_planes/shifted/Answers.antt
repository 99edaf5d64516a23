use Rattle.std.proofs.Common.{arith}
use Rattle.st_aes.proofs.Steps.{same_bits, shifted_is}
use Rattle.st_aes.proofs.wide_planes.shifted.Goals as goal

pub returns : goal.returns
returns c g j two few =
    shifted_is 32 c.args.q _ g j (omega arith) (λ l lt. same_bits _ _ _ _ _ _ _ _ _ _ _ _ _ _ _ _ (c.rows_shifted.ensures l j lt) (c.rows_shifted-2.ensures l j lt) (c.rows_shifted-3.ensures l j lt) (c.rows_shifted-4.ensures l j lt) (c.rows_shifted-5.ensures l j lt) (c.rows_shifted-6.ensures l j lt) (c.rows_shifted-7.ensures l j lt) (c.rows_shifted-8.ensures l j lt))
