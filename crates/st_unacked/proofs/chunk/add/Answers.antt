use Rattle.std.proofs.Common.{◌≡◌, ◌∙◌, ◌+◌, ◌-◌, ◌++◌, ◌≤◌, ap, sym, subst, take, drop, min, length, arith}
use Rattle.std.proofs.lemmas.Slice.{pushed}
use Rattle.st_unacked.specs.Chunks.{IsCut, last_written}
use Rattle.st_unacked.proofs.Writes.{adds}
use Rattle.st_unacked.proofs.chunk.add.Goals as goal

pub returns-clause-adds : goal.returns-clause-adds
returns-clause-adds g c =
    adds c.args.at c.min-head.result c.args.more.now c.args.chunks.now.items c.in_ok-new.new.items c.append.new.self.items
    (c.min-head.ensures ∙ ap (λ r. min r (length c.args.more.now)) c.room_behind.ensures) c.requires.laid
    (subst (λ xs. IsCut (c.args.at + c.min-head.result) xs c.in_ok-new.new.items) c.split_at.ensures.back c.in_ok-new.ensures)
    (pushed c.in_ok-new.new.items (c.write_last.ensures.items ∙ ap (λ xs. last_written c.args.at xs c.reserve.new.self.items) c.split_at.ensures.front ∙ ap (last_written c.args.at (take c.min-head.result c.args.more.now)) c.reserve.ensures.items)
    c.unwrap.ensures c.append.ensures.items)
