use Rattle.std.proofs.Common.{◌≡◌, ◌∙◌, ◌-◌, suc, length, arith}
use Rattle.st_unacked.proofs.Writes.{room_last}
use Rattle.st_unacked.proofs.chunk.room_behind.Goals as goal

pub returns : goal.returns
returns g c =
    let some : length c.args.chunks.now.items ≡ suc (c.len-count.result - 1) = omega (arith, c.len-count.ensures, c.if-count-eq0.false) in
    c.room_behind.ensures ∙ room_last c.args.at c.args.chunks.now.items (c.len-count.result - 1) c.index.result.now some c.index.ensures
