use Rattle.std.proofs.Common.{arith}
use Rattle.std.proofs.lemmas.Simd.{length-put_chunk, get_or-put_chunk_at, get_or-put_chunk_below}
use Rattle.st_aes.proofs.wide_pass.store.Goals as goal

pub returns-clause-long : goal.returns-clause-long
returns-clause-long c = length-put_chunk c.args.at c.args.out.now c.args.v

pub returns-clause-written : goal.returns-clause-written
returns-clause-written c k lt = get_or-put_chunk_at c.args.at c.args.out.now c.args.v k 0 (omega (arith, c.fits-v.0)) (omega (arith, c.fits-v.0))

pub returns-clause-before : goal.returns-clause-before
returns-clause-before c k lt = get_or-put_chunk_below c.args.at c.args.out.now c.args.v k 0 lt
