use Rattle.std.proofs.Common.{arith}
use Rattle.st_reassembly.proofs.Bits.{no_bit_from, lowest_is}
use Rattle.st_reassembly.proofs.words.lowest.Goals as goal

pub returns-then-left-eq0-clause-passed : goal.returns-then-left-eq0-clause-passed
returns-then-left-eq0-clause-passed c i from below = no_bit_from c.args.word c.args.from i c.if-left-eq0.true from

pub returns-else-left-eq0-clause-within : goal.returns-else-left-eq0-clause-within
returns-else-left-eq0-clause-within c =
    let low = lowest_is c.args.word c.args.from (omega arith) (omega arith) in
    omega (arith, low.within)

pub returns-else-left-eq0-clause-passed : goal.returns-else-left-eq0-clause-passed
returns-else-left-eq0-clause-passed c = (lowest_is c.args.word c.args.from (omega arith) (omega arith)).passed

pub returns-else-left-eq0-clause-found : goal.returns-else-left-eq0-clause-found
returns-else-left-eq0-clause-found c = λ _. (lowest_is c.args.word c.args.from (omega arith) (omega arith)).found
