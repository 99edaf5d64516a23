use Rattle.std.proofs.lemmas.Grind.{common_steps}
use Rattle.std.proofs.Common.{◌≡◌, List, [], ◌++◌, ℕ, take, subst, ap, refl, ◌∙◌, arith}
use Rattle.std.specs.Io.KnownBytes.{Appends}
use Rattle.ilpstream_output.specs.Endings.{WritesPart}
use Rattle.ilpstream_frames.proofs.Progressing.{begins, begins_at_end, begins_in_piece, covers_ended, covers_piece, covers_same, on_err}
use Rattle.st_devices.specs.Tallies.{device_of}
use Rattle.ilpstream_frames.proofs.frames.turn.Goals as goal

pub returns-in-End-clause-covers : goal.returns-in-End-clause-covers
returns-in-End-clause-covers g c = λ input before covers.
    let a = c.in_ok-finished-in-End.ensures.answered in
    let text : c.deref.result.now ≡ a.0 = c.deref.ensures.value ∙ (a.1 ∙ ap (λ (l : List ℕ). l ++ a.0) c.new-out.ensures.items) in
    covers_ended input (g.R.Read.remaining (device_of c.args.reader.now)) (g.R.Read.remaining (device_of c.read_turn.new.reader)) before (g.W.Write.contents (device_of c.args.writer.now)) (g.W.Write.contents (device_of c.put.new.writer))
    c.args.lines.now c.finish-finished.new.self a.0 [] refl covers c.in-End.ensures.1 c.in-End.ensures.2
    (subst (Appends (g.W.Write.contents (device_of c.args.writer.now)) (g.W.Write.contents (device_of c.put.new.writer))) text c.in_ok-put-in-End.ensures.whole) a.2

pub returns-clause-covers : goal.returns-clause-covers
returns-clause-covers g c = λ input before covers.
    let a = c.in_ok-fed-in-Bytes.ensures.answered in
    let text : c.deref-in-Bytes.result.now ≡ a.0 = c.deref-in-Bytes.ensures.value ∙ (a.1 ∙ ap (λ (l : List ℕ). l ++ a.0) c.new-out.ensures.items) in
    covers_piece input (g.R.Read.remaining (device_of c.args.reader.now)) (g.R.Read.remaining (device_of c.read_turn.new.reader)) before (g.W.Write.contents (device_of c.args.writer.now)) (g.W.Write.contents (device_of c.put-in-Bytes.new.writer))
    c.args.lines.now c.feed-fed.new.self (take c.in-Bytes.n c.read_turn.new.buf) a.0 covers c.in-Bytes.ensures.1
    (subst (Appends (g.W.Write.contents (device_of c.args.writer.now)) (g.W.Write.contents (device_of c.put-in-Bytes.new.writer))) text c.in_ok-put-in-Bytes.ensures.whole) a.2

pub returns-in-Fault-clause-part : goal.returns-in-Fault-clause-part
returns-in-Fault-clause-part g c = λ input before covers. begins input (g.R.Read.remaining (device_of c.args.reader.now)) before (g.W.Write.contents (device_of c.args.writer.now)) c.args.lines.now covers

pub returns-in_err-put-in-End-clause-part : goal.returns-in_err-put-in-End-clause-part
returns-in_err-put-in-End-clause-part g c = λ input before covers.
    let a = c.finish-finished.ensures.part in
    let text : c.deref.result.now ≡ a.0 = c.deref.ensures.value ∙ (a.1 ∙ ap (λ (l : List ℕ). l ++ a.0) c.new-out.ensures.items) in
    on_err c.from_residual.result _
    (begins_at_end input (g.R.Read.remaining (device_of c.args.reader.now)) (g.R.Read.remaining (device_of c.read_turn.new.reader)) before (g.W.Write.contents (device_of c.args.writer.now)) (g.W.Write.contents (device_of c.put.new.writer))
    c.args.lines.now [] a.0 refl covers c.in-End.ensures.1 c.in-End.ensures.2 a.2
    (subst (λ (x : List ℕ). WritesPart x (g.W.Write.contents (device_of c.args.writer.now)) (g.W.Write.contents (device_of c.put.new.writer))) text c.put.ensures.part))

pub returns-in_err-finished-in-End-clause-part : goal.returns-in_err-finished-in-End-clause-part
returns-in_err-finished-in-End-clause-part g c = λ input before covers.
    let a = c.finish-finished.ensures.part in
    let text : c.deref.result.now ≡ a.0 = c.deref.ensures.value ∙ (a.1 ∙ ap (λ (l : List ℕ). l ++ a.0) c.new-out.ensures.items) in
    on_err c.from_residual-in_err-finished-in-End.result _
    (begins_at_end input (g.R.Read.remaining (device_of c.args.reader.now)) (g.R.Read.remaining (device_of c.read_turn.new.reader)) before (g.W.Write.contents (device_of c.args.writer.now)) (g.W.Write.contents (device_of c.put.new.writer))
    c.args.lines.now [] a.0 refl covers c.in-End.ensures.1 c.in-End.ensures.2 a.2
    (subst (λ (x : List ℕ). WritesPart x (g.W.Write.contents (device_of c.args.writer.now)) (g.W.Write.contents (device_of c.put.new.writer))) text c.put.ensures.part))

pub returns-in_err-put-in-Bytes-clause-part : goal.returns-in_err-put-in-Bytes-clause-part
returns-in_err-put-in-Bytes-clause-part g c = λ input before covers.
    let a = c.feed-fed.ensures.part in
    let text : c.deref-in-Bytes.result.now ≡ a.0 = c.deref-in-Bytes.ensures.value ∙ (a.1 ∙ ap (λ (l : List ℕ). l ++ a.0) c.new-out.ensures.items) in
    on_err c.from_residual-in_err-put-in-Bytes.result _
    (begins_in_piece input (g.R.Read.remaining (device_of c.args.reader.now)) (g.R.Read.remaining (device_of c.read_turn.new.reader)) before (g.W.Write.contents (device_of c.args.writer.now)) (g.W.Write.contents (device_of c.put-in-Bytes.new.writer))
    c.args.lines.now (take c.in-Bytes.n c.read_turn.new.buf) a.0 covers c.in-Bytes.ensures.1 a.2
    (subst (λ (x : List ℕ). WritesPart x (g.W.Write.contents (device_of c.args.writer.now)) (g.W.Write.contents (device_of c.put-in-Bytes.new.writer))) text c.put-in-Bytes.ensures.part))

pub returns-in_err-fed-in-Bytes-clause-part : goal.returns-in_err-fed-in-Bytes-clause-part
returns-in_err-fed-in-Bytes-clause-part g c = λ input before covers.
    let a = c.feed-fed.ensures.part in
    let text : c.deref-in-Bytes.result.now ≡ a.0 = c.deref-in-Bytes.ensures.value ∙ (a.1 ∙ ap (λ (l : List ℕ). l ++ a.0) c.new-out.ensures.items) in
    on_err c.from_residual-in_err-fed-in-Bytes.result _
    (begins_in_piece input (g.R.Read.remaining (device_of c.args.reader.now)) (g.R.Read.remaining (device_of c.read_turn.new.reader)) before (g.W.Write.contents (device_of c.args.writer.now)) (g.W.Write.contents (device_of c.put-in-Bytes.new.writer))
    c.args.lines.now (take c.in-Bytes.n c.read_turn.new.buf) a.0 covers c.in-Bytes.ensures.1 a.2
    (subst (λ (x : List ℕ). WritesPart x (g.W.Write.contents (device_of c.args.writer.now)) (g.W.Write.contents (device_of c.put-in-Bytes.new.writer))) text c.put-in-Bytes.ensures.part))

pub returns-in-Again-clause-covers : goal.returns-in-Again-clause-covers
returns-in-Again-clause-covers g c = λ input before covers.
    covers_same input (g.R.Read.remaining (device_of c.args.reader.now)) (g.R.Read.remaining (device_of c.read_turn.new.reader)) before (g.W.Write.contents (device_of c.args.writer.now)) c.args.lines.now covers c.in-Again.ensures.0

pub same-lines : goal.same-lines
same-lines g c = grind (arith, common_steps)

pub returns-in-Again-clause-bounded : goal.returns-in-Again-clause-bounded
returns-in-Again-clause-bounded g c = grind (arith, common_steps)

pub returns-in-Again-clause-reader_faults : goal.returns-in-Again-clause-reader_faults
returns-in-Again-clause-reader_faults g c = grind (arith, common_steps)

pub returns-in-Again-clause-writer_faults : goal.returns-in-Again-clause-writer_faults
returns-in-Again-clause-writer_faults g c = grind (arith, common_steps)

pub returns-in-Again-clause-flushed : goal.returns-in-Again-clause-flushed
returns-in-Again-clause-flushed g c = grind (arith, common_steps)

pub returns-in-Again-clause-reads : goal.returns-in-Again-clause-reads
returns-in-Again-clause-reads g c = grind (arith, common_steps)

pub returns-in-Again-clause-turns : goal.returns-in-Again-clause-turns
returns-in-Again-clause-turns g c = grind (arith, common_steps)

pub same-lines-in-Fault : goal.same-lines-in-Fault
same-lines-in-Fault g c = grind (arith, common_steps)

pub returns-in-Fault-clause-reader_faults : goal.returns-in-Fault-clause-reader_faults
returns-in-Fault-clause-reader_faults g c = grind (arith, common_steps)

pub returns-in-Fault-clause-writer_faults : goal.returns-in-Fault-clause-writer_faults
returns-in-Fault-clause-writer_faults g c = grind (arith, common_steps)

pub returns-in-Fault-clause-out_of_turns : goal.returns-in-Fault-clause-out_of_turns
returns-in-Fault-clause-out_of_turns g c = grind (arith, common_steps)

pub returns-in-Fault-clause-reads : goal.returns-in-Fault-clause-reads
returns-in-Fault-clause-reads g c = grind (arith, common_steps)

pub returns-in-Fault-clause-turns : goal.returns-in-Fault-clause-turns
returns-in-Fault-clause-turns g c = grind (arith, common_steps)

pub same-lines-in-End : goal.same-lines-in-End
same-lines-in-End g c = grind (arith, common_steps)

pub finish-finished-requires : goal.finish-finished-requires
finish-finished-requires g c = grind (arith, common_steps)

pub returns-in_err-put-in-End-clause-covers : goal.returns-in_err-put-in-End-clause-covers
returns-in_err-put-in-End-clause-covers g c = grind (arith, common_steps)

pub returns-in_err-put-in-End-clause-bounded : goal.returns-in_err-put-in-End-clause-bounded
returns-in_err-put-in-End-clause-bounded g c = grind (arith, common_steps)

pub returns-in_err-put-in-End-clause-flushed : goal.returns-in_err-put-in-End-clause-flushed
returns-in_err-put-in-End-clause-flushed g c = grind (arith, common_steps)

pub returns-in_err-put-in-End-clause-reads : goal.returns-in_err-put-in-End-clause-reads
returns-in_err-put-in-End-clause-reads g c = grind (arith, common_steps)

pub returns-in_err-put-in-End-clause-turns : goal.returns-in_err-put-in-End-clause-turns
returns-in_err-put-in-End-clause-turns g c = grind (arith, common_steps)

pub returns-in_err-finished-in-End-clause-reads : goal.returns-in_err-finished-in-End-clause-reads
returns-in_err-finished-in-End-clause-reads g c = grind (arith, common_steps)

pub returns-in_err-finished-in-End-clause-turns : goal.returns-in_err-finished-in-End-clause-turns
returns-in_err-finished-in-End-clause-turns g c = grind (arith, common_steps)

pub returns-in-End-clause-bounded : goal.returns-in-End-clause-bounded
returns-in-End-clause-bounded g c = grind (arith, common_steps)

pub returns-in-End-clause-reader_faults : goal.returns-in-End-clause-reader_faults
returns-in-End-clause-reader_faults g c = grind (arith, common_steps)

pub returns-in-End-clause-writer_faults : goal.returns-in-End-clause-writer_faults
returns-in-End-clause-writer_faults g c = grind (arith, common_steps)

pub returns-in-End-clause-flushed : goal.returns-in-End-clause-flushed
returns-in-End-clause-flushed g c = grind (arith, common_steps)

pub returns-in-End-clause-reads : goal.returns-in-End-clause-reads
returns-in-End-clause-reads g c = grind (arith, common_steps)

pub returns-in-End-clause-turns : goal.returns-in-End-clause-turns
returns-in-End-clause-turns g c = grind (arith, common_steps)

pub same-lines-in-Bytes : goal.same-lines-in-Bytes
same-lines-in-Bytes g c = grind (arith, common_steps)

pub shared_ref_as_front-feed : goal.shared_ref_as_front-feed
shared_ref_as_front-feed g c = grind (arith, common_steps)

pub feed-fed-requires : goal.feed-fed-requires
feed-fed-requires g c = grind (arith, common_steps)

pub returns-in_err-put-in-Bytes-clause-covers : goal.returns-in_err-put-in-Bytes-clause-covers
returns-in_err-put-in-Bytes-clause-covers g c = grind (arith, common_steps)

pub returns-in_err-put-in-Bytes-clause-bounded : goal.returns-in_err-put-in-Bytes-clause-bounded
returns-in_err-put-in-Bytes-clause-bounded g c = grind (arith, common_steps)

pub returns-in_err-put-in-Bytes-clause-flushed : goal.returns-in_err-put-in-Bytes-clause-flushed
returns-in_err-put-in-Bytes-clause-flushed g c = grind (arith, common_steps)

pub returns-in_err-put-in-Bytes-clause-reads : goal.returns-in_err-put-in-Bytes-clause-reads
returns-in_err-put-in-Bytes-clause-reads g c = grind (arith, common_steps)

pub returns-in_err-put-in-Bytes-clause-turns : goal.returns-in_err-put-in-Bytes-clause-turns
returns-in_err-put-in-Bytes-clause-turns g c = grind (arith, common_steps)

pub returns-in_err-fed-in-Bytes-clause-covers : goal.returns-in_err-fed-in-Bytes-clause-covers
returns-in_err-fed-in-Bytes-clause-covers g c = grind (arith, common_steps)

pub returns-in_err-fed-in-Bytes-clause-bounded : goal.returns-in_err-fed-in-Bytes-clause-bounded
returns-in_err-fed-in-Bytes-clause-bounded g c = grind (arith, common_steps)

pub returns-in_err-fed-in-Bytes-clause-flushed : goal.returns-in_err-fed-in-Bytes-clause-flushed
returns-in_err-fed-in-Bytes-clause-flushed g c = grind (arith, common_steps)

pub returns-in_err-fed-in-Bytes-clause-reads : goal.returns-in_err-fed-in-Bytes-clause-reads
returns-in_err-fed-in-Bytes-clause-reads g c = grind (arith, common_steps)

pub returns-in_err-fed-in-Bytes-clause-turns : goal.returns-in_err-fed-in-Bytes-clause-turns
returns-in_err-fed-in-Bytes-clause-turns g c = grind (arith, common_steps)

pub returns-clause-bounded : goal.returns-clause-bounded
returns-clause-bounded g c = grind (arith, common_steps)

pub returns-clause-reader_faults : goal.returns-clause-reader_faults
returns-clause-reader_faults g c = grind (arith, common_steps)

pub returns-clause-writer_faults : goal.returns-clause-writer_faults
returns-clause-writer_faults g c = grind (arith, common_steps)

pub returns-clause-flushed : goal.returns-clause-flushed
returns-clause-flushed g c = grind (arith, common_steps)

pub returns-clause-reads : goal.returns-clause-reads
returns-clause-reads g c = grind (arith, common_steps)

pub returns-clause-turns : goal.returns-clause-turns
returns-clause-turns g c = grind (arith, common_steps)
