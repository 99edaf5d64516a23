use Rattle.std.proofs.Common.{◌-◌, ◌≤◌, length, arith}
use Rattle.std.specs.Prelude.{slice_index}
use Rattle.st_reassembly.specs.Ring.{place, is_marked}
use Rattle.st_reassembly.proofs.Laying.{filled_at, written_in, written_out}
use Rattle.st_reassembly.proofs.ring.fill.Goals as goal

pub loop-from-preserved : goal.loop-from-preserved
loop-from-preserved g c =
    let from : c.args.at ≤ c.next_place-first.result = omega (arith, c.loop-from.invariant.at, c.next_place-first.ensures.from) in
    record {
      size = omega (arith, c.write_at.ensures.len, c.loop-from.invariant.size);
      words = c.mark.ensures.words;
      at = omega (arith, c.next_place-last.ensures.from);
      within = c.next_place-last.ensures.to;
      fills = λ k l. filled_at (place c.args.ring.now.bytes.items c.args.ring.now.marks.items k) (is_marked c.loop-from.ring.marks.items k) (is_marked c.mark.new.marks.items k)
          c.args.at (length c.args.piece.now) c.loop-from.from c.next_place-first.result c.next_place-last.result k
          (slice_index c.loop-from.ring.bytes.items k) (slice_index c.write_at.new.bytes.items k) (slice_index c.args.piece.now (k - c.args.at))
          c.loop-from.invariant.at c.next_place-first.ensures.from c.next_place-last.ensures.from c.next_place-last.ensures.to
          (c.mark.ensures.marked k l)
          (written_in c.write_at.new.bytes.items c.loop-from.ring.bytes.items c.args.piece.now c.args.at c.next_place-first.result c.next_place-last.result k from c.next_place-last.ensures.from c.next_place-last.ensures.to (c.write_at.ensures.bytes k))
          (written_out c.write_at.new.bytes.items c.loop-from.ring.bytes.items c.args.piece.now c.args.at c.next_place-first.result c.next_place-last.result k from c.next_place-last.ensures.from c.next_place-last.ensures.to (c.write_at.ensures.bytes k))
          (c.next_place-last.ensures.passed k) (λ a b. c.next_place-first.ensures.passed k a b) (c.loop-from.invariant.fills k l);
    }
