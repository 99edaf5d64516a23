use Rattle.std.proofs.Common.{◌≡◌, ◌∙◌, ◌-◌, ◌<◌, ◌≤◌, ap, refl, sym, suc, zero, length, arith, List, [], ◌∷◌, ℕ}
use Rattle.st_unacked.specs.Chunks.{Block, room_behind}
use Rattle.st_unacked.proofs.Writes.{room_last, set_last, last_none}
use Rattle.st_unacked.proofs.chunk.write_last.Goals as goal

not_none : (at : ℕ) (cs : List Block) → 0 < room_behind at cs → 0 < length cs
not_none at [] h = h
not_none at (c ∷ cs) h = omega arith

pub returns-then-count-eq0-clause-items : goal.returns-then-count-eq0-clause-items
returns-then-count-eq0-clause-items g c = last_none c.args.at c.args.bytes.now c.args.chunks.now.items (omega (arith, c.if-count-eq0.true))

pub write-requires : goal.write-requires
write-requires g c =
    let room : 0 < room_behind c.args.at c.args.chunks.now.items = omega (arith, c.requires, c.if-count-eq0.false) in
    let some : length c.args.chunks.now.items ≡ suc (c.len-last.result - 1) = omega (arith, c.len-last.ensures, not_none c.args.at c.args.chunks.now.items room) in
    let last = room_last c.args.at c.args.chunks.now.items (c.len-last.result - 1) c.index_mut.result.now some c.index_mut.ensures.value in
    omega (arith, last, room, c.requires)

pub returns-clause-items : goal.returns-clause-items
returns-clause-items g c =
    let room : 0 < room_behind c.args.at c.args.chunks.now.items = omega (arith, c.requires, c.if-count-eq0.false) in
    let some : length c.args.chunks.now.items ≡ suc (c.len-last.result - 1) = omega (arith, c.len-last.ensures, not_none c.args.at c.args.chunks.now.items room) in
    set_last c.args.at c.args.bytes.now c.args.chunks.now.items (c.len-last.result - 1) c.index_mut.result.now c.write.new.self some c.index_mut.ensures.value c.write.ensures
