use Rattle.std.proofs.Common.{◌≡◌, ◌∙◌, ◌+◌, ◌-◌, ◌<◌, ◌≤◌, ap, sym, suc, drop, true, arith}
use Rattle.st_unacked.specs.Chunks.{ends_past, byte_in, covers}
use Rattle.st_unacked.proofs.Blocks.{true_test}
use Rattle.st_unacked.proofs.Writes.{in_front, block_has, part_byte}
use Rattle.st_unacked.proofs.chunk.part_at.Goals as goal

pub returns-then-ends_past-clause-some : goal.returns-then-ends_past-clause-some
returns-then-ends_past-clause-some g c =
    let ends : ends_past c.args.from c.chunk-item.result ≡ true = sym c.ends_past.ensures ∙ c.if-ends_past.true in
    let front = in_front c.args.chunks.now.items c.deref-chunk-items.result.now c.deref-chunk-items.ensures.value c.loop-chunk.chunk-index c.chunk-item.result c.loop-chunk-test.true c.chunk-item.is in
    let low = block_has c.chunk-item.result (drop (suc c.loop-chunk.chunk-index) c.args.chunks.now.items) c.args.from ends (sym (ap (λ cs. covers cs c.args.from) front) ∙ c.loop-chunk.invariant.there) in
    omega (arith, low, c.part.ensures.len, true_test (c.args.from - c.chunk-item.result.at) 4096 ends, c.requires.order)

pub returns-then-ends_past-clause-bytes : goal.returns-then-ends_past-clause-bytes
returns-then-ends_past-clause-bytes g c k l =
    let ends : ends_past c.args.from c.chunk-item.result ≡ true = sym c.ends_past.ensures ∙ c.if-ends_past.true in
    let front = in_front c.args.chunks.now.items c.deref-chunk-items.result.now c.deref-chunk-items.ensures.value c.loop-chunk.chunk-index c.chunk-item.result c.loop-chunk-test.true c.chunk-item.is in
    let low = block_has c.chunk-item.result (drop (suc c.loop-chunk.chunk-index) c.args.chunks.now.items) c.args.from ends (sym (ap (λ cs. covers cs c.args.from) front) ∙ c.loop-chunk.invariant.there) in
    part_byte c.chunk-item.result (drop (suc c.loop-chunk.chunk-index) c.args.chunks.now.items) c.args.from c.args.to k c.part.result.now low c.part.ensures.bytes c.part.ensures.len l
    ∙ sym (ap (λ cs. byte_in cs (c.args.from + k)) front) ∙ sym (c.loop-chunk.invariant.rest (c.args.from + k) (omega arith))
