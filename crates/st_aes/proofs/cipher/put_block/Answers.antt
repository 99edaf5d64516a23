use Rattle.std.proofs.Common.{arith}
use Rattle.st_aes.proofs.Streams.{block_put}
use Rattle.st_aes.proofs.cipher.put_block.Goals as goal

pub returns-clause-bytes : goal.returns-clause-bytes
returns-clause-bytes c i =
    let l = c.loop-j in
    block_put c.args.out.now l.out c.args.block c.args.m (λ k few. l.invariant.done k (omega arith)) l.invariant.before (λ k le. l.invariant.behind k (omega arith)) i
