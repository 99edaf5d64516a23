use Rattle.std.proofs.Common.{rules, ◌∙◌}
use Rattle.st_devices.specs.Tallies.{device_of, tally_of}
use Rattle.st_file.proofs.Asks.{spends_asks, spends_turns}
use Rattle.st_file.proofs.Sending.{put_why, sent_all, sent_more}
use Rattle.st_file.proofs.send.send_all.Goals as goal

pub returns-in_err-piece-clause-turns : goal.returns-in_err-piece-clause-turns
returns-in_err-piece-clause-turns g c = (
  c.read_piece.new.turns,
  spends_turns (tally_of c.args.reader.now) (tally_of c.loop-piece.reader) (tally_of c.read_piece.new.reader)
      (g.K.Sink.taken c.args.sink.now).calls (g.K.Sink.taken c.loop-piece.sink).calls c.args.turns c.loop-piece.left c.read_piece.new.turns
      c.loop-piece.invariant.spent c.in_err-piece.ensures.turns,
  search (rules, c.in_err-piece.ensures.out_of_turns),
)

pub returns-in_err-more-clause-turns : goal.returns-in_err-more-clause-turns
returns-in_err-more-clause-turns g c =
    let read = spends_turns (tally_of c.args.reader.now) (tally_of c.loop-piece.reader) (tally_of c.read_piece.new.reader)
    (g.K.Sink.taken c.args.sink.now).calls (g.K.Sink.taken c.loop-piece.sink).calls c.args.turns c.loop-piece.left c.read_piece.new.turns
    c.loop-piece.invariant.spent c.in_ok-piece.ensures.turns in (
      c.put_next.new.turns,
      spends_asks (tally_of c.args.reader.now) (tally_of c.read_piece.new.reader)
          (g.K.Sink.taken c.args.sink.now).calls (g.K.Sink.taken c.loop-piece.sink).calls (g.K.Sink.taken c.put_next.new.sink).calls
          c.args.turns c.read_piece.new.turns c.put_next.new.turns read c.in_err-more.ensures.turns,
      search (rules, c.in_err-more.ensures.out_of_turns),
    )

pub returns-in-None-clause-turns : goal.returns-in-None-clause-turns
returns-in-None-clause-turns g c =
    let read = spends_turns (tally_of c.args.reader.now) (tally_of c.loop-piece.reader) (tally_of c.read_piece.new.reader)
    (g.K.Sink.taken c.args.sink.now).calls (g.K.Sink.taken c.loop-piece.sink).calls c.args.turns c.loop-piece.left c.read_piece.new.turns
    c.loop-piece.invariant.spent c.in_ok-piece.ensures.turns in (
      c.put_next.new.turns,
      spends_asks (tally_of c.args.reader.now) (tally_of c.read_piece.new.reader)
          (g.K.Sink.taken c.args.sink.now).calls (g.K.Sink.taken c.loop-piece.sink).calls (g.K.Sink.taken c.put_next.new.sink).calls
          c.args.turns c.read_piece.new.turns c.put_next.new.turns read c.in_ok-more.ensures.turns,
      search rules,
    )

pub loop-piece-preserved : goal.loop-piece-preserved
loop-piece-preserved g c =
    let read = spends_turns (tally_of c.args.reader.now) (tally_of c.loop-piece.reader) (tally_of c.read_piece.new.reader)
    (g.K.Sink.taken c.args.sink.now).calls (g.K.Sink.taken c.loop-piece.sink).calls c.args.turns c.loop-piece.left c.read_piece.new.turns
    c.loop-piece.invariant.spent c.in_ok-piece.ensures.turns in
    let put = rw c.in-Some.is at c.in_ok-more.ensures.put in
    record {
      sent = (
        sent_more (g.R.Read.remaining (device_of c.args.reader.now)) (g.R.Read.remaining (device_of c.loop-piece.reader)) (g.R.Read.remaining (device_of c.read_piece.new.reader))
            (g.K.Sink.taken c.args.sink.now) (g.K.Sink.taken c.loop-piece.sink) (g.K.Sink.taken c.put_next.new.sink) c.loop-piece.sent c.in-Some.more c.in_ok-piece.piece.items
            c.loop-piece.invariant.sent.0 c.in_ok-piece.ensures.read.0 put.1 put.0,
        put.2 ∙ c.loop-piece.invariant.sent.1,
      );
      faults = c.in_ok-piece.ensures.faults ∙ c.loop-piece.invariant.faults;
      spent = spends_asks (tally_of c.args.reader.now) (tally_of c.read_piece.new.reader)
          (g.K.Sink.taken c.args.sink.now).calls (g.K.Sink.taken c.loop-piece.sink).calls (g.K.Sink.taken c.put_next.new.sink).calls
          c.args.turns c.read_piece.new.turns c.put_next.new.turns read c.in_ok-more.ensures.turns;
    }

pub returns-in_err-more-clause-why : goal.returns-in_err-more-clause-why
returns-in_err-more-clause-why g c =
    let read = c.in_ok-piece.ensures.read in
    let put = c.in_err-more.ensures.put in
    let why = put_why (g.R.Read.remaining (device_of c.args.reader.now)) (g.R.Read.remaining (device_of c.loop-piece.reader)) (g.R.Read.remaining (device_of c.read_piece.new.reader))
    (g.K.Sink.taken c.args.sink.now) (g.K.Sink.taken c.loop-piece.sink) (g.K.Sink.taken c.put_next.new.sink) c.loop-piece.sent c.in_ok-piece.piece.items c.in_err-more.field-0.0 c.loop-piece.invariant.sent
    read.0 read.1 put.0 put.1 put.2 in
    search (rules, why)

pub returns-in-None-clause-all : goal.returns-in-None-clause-all
returns-in-None-clause-all g c =
    let read = c.in_ok-piece.ensures.read in
    let put = rw c.in-None.is at c.in_ok-more.ensures.put in (
      sent_all (g.R.Read.remaining (device_of c.args.reader.now)) (g.R.Read.remaining (device_of c.loop-piece.reader)) (g.R.Read.remaining (device_of c.read_piece.new.reader))
          (g.K.Sink.taken c.args.sink.now) (g.K.Sink.taken c.loop-piece.sink) (g.K.Sink.taken c.put_next.new.sink) c.loop-piece.sent c.in_ok-piece.piece.items
          c.loop-piece.invariant.sent.0 read.0 put.0 put.1,
      read.2 put.0,
      put.2,
    )
