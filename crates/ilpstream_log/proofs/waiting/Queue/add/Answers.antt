use Rattle.std.proofs.Common.{◌≡◌, refl, arith}
use Rattle.ilpstream_log.proofs.Found.{alone}
use Rattle.ilpstream_log.proofs.waiting.Queue.add.Goals as goal

pub returns-clause-added : goal.returns-clause-added
returns-clause-added c =
    let none : c.args.self.now.lost ≡ 0 = omega (arith, c.if-self-gt0.false) in
    alone c.args.self.now _ c.args.now c.args.line none c.push_back_reserved.ensures.items refl none
