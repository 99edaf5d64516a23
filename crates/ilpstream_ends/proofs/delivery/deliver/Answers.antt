use Rattle.std.proofs.Common.{◌∙◌, Err, subst}
use Rattle.st_file.specs.Stores.{WritesPiece}
use Rattle.st_devices.specs.Tallies.{device_of}
use Rattle.ilpstream_ends.proofs.Keeping.{kept_ended, kept_idle, kept_more, kept_past, kept_quiet, kept_why, flush_why}
use Rattle.ilpstream_ends.proofs.delivery.deliver.Goals as goal

pub returns-in-Err-write_piece-clause-kept : goal.returns-in-Err-write_piece-clause-kept
returns-in-Err-write_piece-clause-kept g c start before k =
    kept_why start c.loop-turns.end c.next_of.new.end before (g.W.Write.contents (device_of c.loop-turns.writer)) (g.W.Write.contents (device_of c.write_piece.new.writer)) c.loop-turns.written c.in-Ok-Bytes.bytes.items c.in-Err-write_piece.error
    (c.loop-turns.invariant.kept start before k) (rw c.in-Ok-Bytes.field-0-is at c.in-Ok-Bytes.ensures.gave) (subst (λ t. WritesPiece c.loop-turns.written (g.W.Write.contents (device_of c.loop-turns.writer)) (g.W.Write.contents (device_of c.write_piece.new.writer)) t (Err c.in-Err-write_piece.error)) c.deref.ensures.value c.in-Err-write_piece.ensures.written)

pub loop-turns-preserved : goal.loop-turns-preserved
loop-turns-preserved g c = record {
  kept = λ start before k. kept_more start c.loop-turns.end c.next_of.new.end before (g.W.Write.contents (device_of c.loop-turns.writer)) (g.W.Write.contents (device_of c.write_piece.new.writer)) c.loop-turns.written c.in-Ok.by_then c.in-Ok-Bytes.bytes.items
      (c.loop-turns.invariant.kept start before k) (rw c.in-Ok-Bytes.field-0-is at c.in-Ok-Bytes.ensures.gave) (rw c.deref.ensures.value at c.in-Ok.ensures.written);
  faults = c.in-Ok.ensures.faults ∙ c.loop-turns.invariant.faults;
}

pub returns-in-Ok-flush_all-clause-kept : goal.returns-in-Ok-flush_all-clause-kept
returns-in-Ok-flush_all-clause-kept g c start before k =
    kept_quiet start c.loop-turns.end c.next_of.new.end before (g.W.Write.contents (device_of c.loop-turns.writer)) (g.W.Write.contents (device_of c.flush_all.new.writer)) c.loop-turns.written (c.loop-turns.invariant.kept start before k) (rw c.in-Ok-Nothing.field-0-is at c.in-Ok-Nothing.ensures.gave) c.in-Ok-flush_all.ensures.bytes

pub returns-in-Err-flush_all-clause-kept : goal.returns-in-Err-flush_all-clause-kept
returns-in-Err-flush_all-clause-kept g c start before k =
    let idle = kept_idle start c.loop-turns.end c.next_of.new.end before (g.W.Write.contents (device_of c.loop-turns.writer)) c.loop-turns.written (c.loop-turns.invariant.kept start before k) (rw c.in-Ok-Nothing.field-0-is at c.in-Ok-Nothing.ensures.gave) in
    flush_why start c.next_of.new.end before (g.W.Write.contents (device_of c.loop-turns.writer)) (g.W.Write.contents (device_of c.flush_all.new.writer)) c.loop-turns.written c.in-Err-flush_all.error idle c.in-Err-flush_all.ensures.bytes c.in-Err-flush_all.ensures.why

pub returns-in-Ok-flush_all-2-clause-kept : goal.returns-in-Ok-flush_all-2-clause-kept
returns-in-Ok-flush_all-2-clause-kept g c start before k =
    kept_ended start c.loop-turns.end c.next_of.new.end before (g.W.Write.contents (device_of c.loop-turns.writer)) (g.W.Write.contents (device_of c.flush_all-in-Ok-End.new.writer)) c.loop-turns.written
    (c.loop-turns.invariant.kept start before k) (rw c.in-Ok-End.field-0-is at c.in-Ok-End.ensures.gave) c.in-Ok-flush_all-2.ensures.bytes

pub returns-in-Err-flush_all-2-clause-kept : goal.returns-in-Err-flush_all-2-clause-kept
returns-in-Err-flush_all-2-clause-kept g c start before k =
    let past = kept_past start c.loop-turns.end c.next_of.new.end before (g.W.Write.contents (device_of c.loop-turns.writer)) c.loop-turns.written (c.loop-turns.invariant.kept start before k) (rw c.in-Ok-End.field-0-is at c.in-Ok-End.ensures.gave) in
    flush_why start c.next_of.new.end before (g.W.Write.contents (device_of c.loop-turns.writer)) (g.W.Write.contents (device_of c.flush_all-in-Ok-End.new.writer)) c.loop-turns.written c.in-Err-flush_all-2.error past c.in-Err-flush_all-2.ensures.bytes c.in-Err-flush_all-2.ensures.why

pub returns-in-Ok-Aborted-clause-kept : goal.returns-in-Ok-Aborted-clause-kept
returns-in-Ok-Aborted-clause-kept g c start before k = (c.loop-turns.end, c.loop-turns.invariant.kept start before k, rw c.in-Ok-Aborted.field-0-is at c.in-Ok-Aborted.ensures.gave)

pub returns-in-Err-clause-kept : goal.returns-in-Err-clause-kept
returns-in-Err-clause-kept g c start before k = (c.in-Err.ensures.refused.0, c.loop-turns.written, rw c.in-Err.ensures.refused.1 (c.loop-turns.invariant.kept start before k))
