use Rattle.std.proofs.Common.{rules, ◌∙◌, Err, subst}
use Rattle.st_devices.specs.Tallies.{device_of, tally_of}
use Rattle.st_file.specs.Stores.{WritesPiece}
use Rattle.st_file.proofs.Asks.{spends_asks, spends_turns}
use Rattle.st_file.proofs.Storing.{stored_more, stored_why}
use Rattle.st_file.proofs.store.store_all.Goals as goal

pub returns-in_err-bytes-clause-turns : goal.returns-in_err-bytes-clause-turns
returns-in_err-bytes-clause-turns g c = (
  c.next_bytes.new.turns,
  spends_asks (tally_of c.args.writer.now) (tally_of c.loop-bytes.writer)
      (g.S.Source.given c.args.source.now).calls (g.S.Source.given c.loop-bytes.source).calls (g.S.Source.given c.next_bytes.new.source).calls
      c.args.turns c.loop-bytes.left c.next_bytes.new.turns c.loop-bytes.invariant.spent c.in_err-bytes.ensures.turns,
  search (rules, c.in_err-bytes.ensures.out_of_turns),
)

pub returns-in_err-written-clause-why : goal.returns-in_err-written-clause-why
returns-in_err-written-clause-why g c =
    let given = rw c.in-Some.is at c.in_ok-bytes.ensures.given in
    let written = subst (λ t. WritesPiece c.loop-bytes.written (g.W.Write.contents (device_of c.loop-bytes.writer)) (g.W.Write.contents (device_of c.write_piece.new.writer)) t (Err c.in_err-written.field-0.0)) c.deref.ensures.value c.in_err-written.ensures.written in
    let why = stored_why (g.W.Write.contents (device_of c.args.writer.now)) (g.W.Write.contents (device_of c.loop-bytes.writer)) (g.W.Write.contents (device_of c.write_piece.new.writer))
    (g.S.Source.given c.args.source.now) (g.S.Source.given c.loop-bytes.source) (g.S.Source.given c.next_bytes.new.source) c.loop-bytes.written c.in-Some.bytes.items c.in_err-written.field-0.0
    c.loop-bytes.invariant.stored given written in
    search (rules, why)

pub returns-in_err-written-clause-turns : goal.returns-in_err-written-clause-turns
returns-in_err-written-clause-turns g c =
    let asked = spends_asks (tally_of c.args.writer.now) (tally_of c.loop-bytes.writer)
    (g.S.Source.given c.args.source.now).calls (g.S.Source.given c.loop-bytes.source).calls (g.S.Source.given c.next_bytes.new.source).calls
    c.args.turns c.loop-bytes.left c.next_bytes.new.turns c.loop-bytes.invariant.spent c.in_ok-bytes.ensures.turns in (
      c.write_piece.new.turns,
      spends_turns (tally_of c.args.writer.now) (tally_of c.loop-bytes.writer) (tally_of c.write_piece.new.writer)
          (g.S.Source.given c.args.source.now).calls (g.S.Source.given c.next_bytes.new.source).calls c.args.turns c.next_bytes.new.turns c.write_piece.new.turns
          asked c.in_err-written.ensures.turns,
      search (rules, c.in_err-written.ensures.out_of_turns),
    )

pub loop-bytes-preserved : goal.loop-bytes-preserved
loop-bytes-preserved g c =
    let asked = spends_asks (tally_of c.args.writer.now) (tally_of c.loop-bytes.writer)
    (g.S.Source.given c.args.source.now).calls (g.S.Source.given c.loop-bytes.source).calls (g.S.Source.given c.next_bytes.new.source).calls
    c.args.turns c.loop-bytes.left c.next_bytes.new.turns c.loop-bytes.invariant.spent c.in_ok-bytes.ensures.turns in
    let given = rw c.in-Some.is at c.in_ok-bytes.ensures.given in
    let written = rw c.deref.ensures.value at c.in_ok-written.ensures.written in
    record {
      stored = stored_more (g.W.Write.contents (device_of c.args.writer.now)) (g.W.Write.contents (device_of c.loop-bytes.writer)) (g.W.Write.contents (device_of c.write_piece.new.writer))
          (g.S.Source.given c.args.source.now) (g.S.Source.given c.loop-bytes.source) (g.S.Source.given c.next_bytes.new.source) c.loop-bytes.written c.in_ok-written.written c.in-Some.bytes.items
          c.loop-bytes.invariant.stored given written.0 written.1;
      faults = c.in_ok-written.ensures.faults ∙ c.loop-bytes.invariant.faults;
      spent = spends_turns (tally_of c.args.writer.now) (tally_of c.loop-bytes.writer) (tally_of c.write_piece.new.writer)
          (g.S.Source.given c.args.source.now).calls (g.S.Source.given c.next_bytes.new.source).calls c.args.turns c.next_bytes.new.turns c.write_piece.new.turns
          asked c.in_ok-written.ensures.turns;
    }

pub returns-in_err-flush_all-clause-turns : goal.returns-in_err-flush_all-clause-turns
returns-in_err-flush_all-clause-turns g c =
    let asked = spends_asks (tally_of c.args.writer.now) (tally_of c.loop-bytes.writer)
    (g.S.Source.given c.args.source.now).calls (g.S.Source.given c.loop-bytes.source).calls (g.S.Source.given c.next_bytes.new.source).calls
    c.args.turns c.loop-bytes.left c.next_bytes.new.turns c.loop-bytes.invariant.spent c.in_ok-bytes.ensures.turns in (
      c.flush_all.new.turns,
      spends_turns (tally_of c.args.writer.now) (tally_of c.loop-bytes.writer) (tally_of c.flush_all.new.writer)
          (g.S.Source.given c.args.source.now).calls (g.S.Source.given c.next_bytes.new.source).calls c.args.turns c.next_bytes.new.turns c.flush_all.new.turns
          asked c.in_err-flush_all.ensures.turns,
      search (rules, c.in_err-flush_all.ensures.out_of_turns),
    )

pub returns-clause-turns : goal.returns-clause-turns
returns-clause-turns g c =
    let asked = spends_asks (tally_of c.args.writer.now) (tally_of c.loop-bytes.writer)
    (g.S.Source.given c.args.source.now).calls (g.S.Source.given c.loop-bytes.source).calls (g.S.Source.given c.next_bytes.new.source).calls
    c.args.turns c.loop-bytes.left c.next_bytes.new.turns c.loop-bytes.invariant.spent c.in_ok-bytes.ensures.turns in (
      c.flush_all.new.turns,
      spends_turns (tally_of c.args.writer.now) (tally_of c.loop-bytes.writer) (tally_of c.flush_all.new.writer)
          (g.S.Source.given c.args.source.now).calls (g.S.Source.given c.next_bytes.new.source).calls c.args.turns c.next_bytes.new.turns c.flush_all.new.turns
          asked c.in_ok-flush_all.ensures.turns,
      search rules,
    )
