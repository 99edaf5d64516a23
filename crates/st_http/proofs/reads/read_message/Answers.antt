use Rattle.std.proofs.lemmas.Grind.{common_steps}
use Rattle.std.proofs.Common.{arith, [], append-nil, take, ◌∙◌}
use Rattle.std.proofs.KnownBytes.{Consumes-kept, Consumes-trans}
use Rattle.st_devices.specs.Tallies.{device_of}
use Rattle.st_http.specs.Reads.{Reads}
use Rattle.st_http.proofs.Refusals.{reads_part, explains_feed}
use Rattle.st_http.proofs.reads.read_message.Goals as goal

pub returns-in-End-clause-why : goal.returns-in-End-clause-why
returns-in-End-clause-why g c =
    let r : Reads = record { before = g.S.Read.remaining (device_of c.args.stream.now); after = g.S.Read.remaining (device_of c.read_turn.new.reader) } in
    let read = rw append-nil at (Consumes-trans r.before (g.S.Read.remaining (device_of c.reads.stream)) r.after c.reads.reading.taken [] c.reads.invariant.read c.in-End.ensures.1) in (
      reads_part c.args.reading.now.expected r c.reads.reading c.reads.invariant.expected read c.reads.invariant.says c.reads.invariant.taken
          (λ none. c.if-wanted-eq0.false (omega (arith, c.wants.ensures.value, c.min-wanted.ensures))),
      c.in-End.ensures.2,
    )

pub returns-in-Fault-clause-why : goal.returns-in-Fault-clause-why
returns-in-Fault-clause-why g c =
    let r : Reads = record { before = g.S.Read.remaining (device_of c.args.stream.now); after = g.S.Read.remaining (device_of c.read_turn.new.reader) } in
    let read = Consumes-kept r.before (g.S.Read.remaining (device_of c.reads.stream)) r.after c.reads.reading.taken c.reads.invariant.read c.in-Fault.ensures.0 in
    reads_part c.args.reading.now.expected r c.reads.reading c.reads.invariant.expected read c.reads.invariant.says c.reads.invariant.taken
    (λ none. c.if-wanted-eq0.false (omega (arith, c.wants.ensures.value, c.min-wanted.ensures)))

pub returns-in-Err-clause-why : goal.returns-in-Err-clause-why
returns-in-Err-clause-why g c =
    let r : Reads = record { before = g.S.Read.remaining (device_of c.args.stream.now); after = g.S.Read.remaining (device_of c.read_turn.new.reader) } in
    explains_feed c.args.reading.now.expected r (g.S.Read.remaining (device_of c.reads.stream)) c.reads.reading c.feed.new.self (take c.in-Bytes.n c.read_turn.new.buf) c.in-Err.error
    (c.in-Err.ensures.expected ∙ c.reads.invariant.expected) c.reads.invariant.read c.in-Bytes.ensures.1 c.in-Err.ensures.says c.in-Err.ensures.err

pub reads-init : goal.reads-init
reads-init g c = grind (arith, common_steps)

pub returns-then-wanted-eq0-clause-expected : goal.returns-then-wanted-eq0-clause-expected
returns-then-wanted-eq0-clause-expected g c = grind (arith, common_steps)

pub returns-then-wanted-eq0-clause-read : goal.returns-then-wanted-eq0-clause-read
returns-then-wanted-eq0-clause-read g c = grind (arith, common_steps)

pub returns-then-wanted-eq0-clause-says : goal.returns-then-wanted-eq0-clause-says
returns-then-wanted-eq0-clause-says g c = grind (arith, common_steps)

pub returns-then-wanted-eq0-clause-whole : goal.returns-then-wanted-eq0-clause-whole
returns-then-wanted-eq0-clause-whole g c = grind (arith, common_steps)

pub returns-then-wanted-eq0-clause-faults : goal.returns-then-wanted-eq0-clause-faults
returns-then-wanted-eq0-clause-faults g c = grind (arith, common_steps)

pub returns-then-wanted-eq0-clause-turns : goal.returns-then-wanted-eq0-clause-turns
returns-then-wanted-eq0-clause-turns g c = grind (arith, common_steps)

pub returns-then-turns-eq0-clause-expected : goal.returns-then-turns-eq0-clause-expected
returns-then-turns-eq0-clause-expected g c = grind (arith, common_steps)

pub returns-then-turns-eq0-clause-why : goal.returns-then-turns-eq0-clause-why
returns-then-turns-eq0-clause-why g c = grind (arith, common_steps)

pub returns-then-turns-eq0-clause-faults : goal.returns-then-turns-eq0-clause-faults
returns-then-turns-eq0-clause-faults g c = grind (arith, common_steps)

pub returns-then-turns-eq0-clause-turns : goal.returns-then-turns-eq0-clause-turns
returns-then-turns-eq0-clause-turns g c = grind (arith, common_steps)

pub returns-then-turns-eq0-clause-out_of_turns : goal.returns-then-turns-eq0-clause-out_of_turns
returns-then-turns-eq0-clause-out_of_turns g c = grind (arith, common_steps)

pub overflow_sub-turns : goal.overflow_sub-turns
overflow_sub-turns g c = grind (arith, common_steps)

pub slice_bounds-piece-end : goal.slice_bounds-piece-end
slice_bounds-piece-end g c = grind (arith, common_steps)

pub slice_bounds-room-end : goal.slice_bounds-room-end
slice_bounds-room-end g c = grind (arith, common_steps)

pub slice_bounds-feed-end : goal.slice_bounds-feed-end
slice_bounds-feed-end g c = grind (arith, common_steps)

pub returns-in-Err-clause-expected : goal.returns-in-Err-clause-expected
returns-in-Err-clause-expected g c = grind (arith, common_steps)

pub returns-in-Err-clause-faults : goal.returns-in-Err-clause-faults
returns-in-Err-clause-faults g c = grind (arith, common_steps)

pub returns-in-Err-clause-turns : goal.returns-in-Err-clause-turns
returns-in-Err-clause-turns g c = grind (arith, common_steps)

pub returns-in-Err-clause-out_of_turns : goal.returns-in-Err-clause-out_of_turns
returns-in-Err-clause-out_of_turns g c = grind (arith, common_steps)

pub reads-smaller-in_default : goal.reads-smaller-in_default
reads-smaller-in_default g c = grind (arith, common_steps)

pub reads-preserved-in_default : goal.reads-preserved-in_default
reads-preserved-in_default g c = grind (arith, common_steps)

pub returns-in-End-clause-expected : goal.returns-in-End-clause-expected
returns-in-End-clause-expected g c = grind (arith, common_steps)

pub returns-in-End-clause-faults : goal.returns-in-End-clause-faults
returns-in-End-clause-faults g c = grind (arith, common_steps)

pub returns-in-End-clause-turns : goal.returns-in-End-clause-turns
returns-in-End-clause-turns g c = grind (arith, common_steps)

pub returns-in-End-clause-out_of_turns : goal.returns-in-End-clause-out_of_turns
returns-in-End-clause-out_of_turns g c = grind (arith, common_steps)

pub reads-smaller : goal.reads-smaller
reads-smaller g c = grind (arith, common_steps)

pub reads-preserved : goal.reads-preserved
reads-preserved g c = grind (arith, common_steps)

pub returns-in-Fault-clause-expected : goal.returns-in-Fault-clause-expected
returns-in-Fault-clause-expected g c = grind (arith, common_steps)

pub returns-in-Fault-clause-faults : goal.returns-in-Fault-clause-faults
returns-in-Fault-clause-faults g c = grind (arith, common_steps)

pub returns-in-Fault-clause-turns : goal.returns-in-Fault-clause-turns
returns-in-Fault-clause-turns g c = grind (arith, common_steps)

pub returns-in-Fault-clause-out_of_turns : goal.returns-in-Fault-clause-out_of_turns
returns-in-Fault-clause-out_of_turns g c = grind (arith, common_steps)
