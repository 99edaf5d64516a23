use Rattle.std.proofs.Common.{refl}
use Rattle.ilpstream_log.proofs.Found.{behind_lost}
use Rattle.ilpstream_log.proofs.waiting.Queue.add_behind_lost.Goals as goal

pub returns-in-Ok-clause-added : goal.returns-in-Ok-clause-added
returns-in-Ok-clause-added c =
    behind_lost c.args.self.now _ c.args.now c.in-Ok.told c.args.line _ c.requires.lost c.in-Ok.ensures c.push_back_reserved.ensures.items c.push_back_reserved-in-Ok.ensures.items refl refl
