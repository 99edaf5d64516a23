use Rattle.std.proofs.Common.{ℕ, length, sym, subst, le_trans, lt_of_le_of_lt, arith}
use Rattle.std.proofs.lemmas.Bool.{eqb-true}
use Rattle.st_world_parts.specs.Sides.{Client, Server}
use Rattle.ilpstream_local.specs.Parts.{part_size}
use Rattle.ilpstream_local.specs.Schedule.{BeginsRound, BeginsTurn, Turn, WritesOn}
use Rattle.ilpstream_local.proofs.Plays.{sends_on}
use Rattle.ilpstream_local.proofs.Stops.{err_now}
use Rattle.ilpstream_local.proofs.streams.take_turns.Goals as goal

pub returns-in_err-progress-clause-sent : goal.returns-in_err-progress-clause-sent
returns-in_err-progress-clause-sent g c =
    sends_on (part_size (length c.args.input.now) c.args.streams) c.args.input.now c.args.progress.now.sent c.write_all.new.sent c.args.play.now c.write_all.new.play c.close_written.new.play c.write_all.ensures.sent
    c.close_written.ensures.kept

pub returns-in_err-send_client-clause-sent : goal.returns-in_err-send_client-clause-sent
returns-in_err-send_client-clause-sent g c =
    let size = part_size (length c.args.input.now) c.args.streams in
    let from = c.args.progress.now.sent in
    let to = c.write_all.new.sent in
    let start = c.args.play.now in
    let closed = sends_on size c.args.input.now from to start c.write_all.new.play c.close_written.new.play c.write_all.ensures.sent c.close_written.ensures.kept in
    sends_on size c.args.input.now from to start c.close_written.new.play c.send_client.new.play closed c.send_client.ensures.kept

pub returns-in_err-read_streams-clause-sent : goal.returns-in_err-read_streams-clause-sent
returns-in_err-read_streams-clause-sent g c =
    let size = part_size (length c.args.input.now) c.args.streams in
    let from = c.args.progress.now.sent in
    let to = c.write_all.new.sent in
    let start = c.args.play.now in
    let closed = sends_on size c.args.input.now from to start c.write_all.new.play c.close_written.new.play c.write_all.ensures.sent c.close_written.ensures.kept in
    let gone = sends_on size c.args.input.now from to start c.close_written.new.play c.send_client.new.play closed c.send_client.ensures.kept in
    sends_on size c.args.input.now from to start c.send_client.new.play c.read_streams.new.play gone c.read_streams.ensures.kept

pub returns-in_err-send_server-clause-sent : goal.returns-in_err-send_server-clause-sent
returns-in_err-send_server-clause-sent g c =
    let size = part_size (length c.args.input.now) c.args.streams in
    let from = c.args.progress.now.sent in
    let to = c.write_all.new.sent in
    let start = c.args.play.now in
    let closed = sends_on size c.args.input.now from to start c.write_all.new.play c.close_written.new.play c.write_all.ensures.sent c.close_written.ensures.kept in
    let gone = sends_on size c.args.input.now from to start c.close_written.new.play c.send_client.new.play closed c.send_client.ensures.kept in
    let read = sends_on size c.args.input.now from to start c.send_client.new.play c.read_streams.new.play gone c.read_streams.ensures.kept in
    sends_on size c.args.input.now from to start c.read_streams.new.play c.send_server.new.play read c.send_server.ensures.kept

pub returns-then-progress-input-clause-sent : goal.returns-then-progress-input-clause-sent
returns-then-progress-input-clause-sent g c =
    let size = part_size (length c.args.input.now) c.args.streams in
    let from = c.args.progress.now.sent in
    let to = c.write_all.new.sent in
    let start = c.args.play.now in
    let closed = sends_on size c.args.input.now from to start c.write_all.new.play c.close_written.new.play c.write_all.ensures.sent c.close_written.ensures.kept in
    let gone = sends_on size c.args.input.now from to start c.close_written.new.play c.send_client.new.play closed c.send_client.ensures.kept in
    let read = sends_on size c.args.input.now from to start c.send_client.new.play c.read_streams.new.play gone c.read_streams.ensures.kept in
    sends_on size c.args.input.now from to start c.read_streams.new.play c.send_server.new.play read c.send_server.ensures.kept

pub returns-else-progress-input-clause-sent : goal.returns-else-progress-input-clause-sent
returns-else-progress-input-clause-sent g c =
    let size = part_size (length c.args.input.now) c.args.streams in
    let from = c.args.progress.now.sent in
    let to = c.write_all.new.sent in
    let start = c.args.play.now in
    let closed = sends_on size c.args.input.now from to start c.write_all.new.play c.close_written.new.play c.write_all.ensures.sent c.close_written.ensures.kept in
    let gone = sends_on size c.args.input.now from to start c.close_written.new.play c.send_client.new.play closed c.send_client.ensures.kept in
    let read = sends_on size c.args.input.now from to start c.send_client.new.play c.read_streams.new.play gone c.read_streams.ensures.kept in
    sends_on size c.args.input.now from to start c.read_streams.new.play c.send_server.new.play read c.send_server.ensures.kept

pub returns-in_err-progress-clause-begun : goal.returns-in_err-progress-clause-begun
returns-in_err-progress-clause-begun g c =
    let writes : WritesOn (part_size (length c.args.input.now) c.args.streams) c.args.input.now c.args.progress.now.sent c.write_all.new.sent c.args.play.now c.write_all.new.play =
    record { writes = c.write_all.ensures.writes; sent = c.write_all.ensures.sent; all = c.in_ok-write_all.ensures.all } in
    err_now _ _ (BeginsRound.at_closes c.write_all.new.sent c.write_all.new.play writes c.in_err-progress.ensures.begun)

pub returns-in_err-send_client-clause-begun : goal.returns-in_err-send_client-clause-begun
returns-in_err-send_client-clause-begun g c =
    let writes : WritesOn (part_size (length c.args.input.now) c.args.streams) c.args.input.now c.args.progress.now.sent c.write_all.new.sent c.args.play.now c.write_all.new.play =
    record { writes = c.write_all.ensures.writes; sent = c.write_all.ensures.sent; all = c.in_ok-write_all.ensures.all } in
    err_now _ _ (BeginsRound.at_client c.write_all.new.sent c.in_ok-progress.field-0 c.write_all.new.play c.close_written.new.play writes c.in_ok-progress.ensures.closes c.in_err-send_client.ensures.begun)

pub returns-in_err-read_streams-clause-begun : goal.returns-in_err-read_streams-clause-begun
returns-in_err-read_streams-clause-begun g c =
    let writes : WritesOn (part_size (length c.args.input.now) c.args.streams) c.args.input.now c.args.progress.now.sent c.write_all.new.sent c.args.play.now c.write_all.new.play =
    record { writes = c.write_all.ensures.writes; sent = c.write_all.ensures.sent; all = c.in_ok-write_all.ensures.all } in
    err_now _ _ (BeginsRound.at_reads c.write_all.new.sent c.in_ok-progress.field-0 c.send_client.new.counts.sent c.write_all.new.play c.close_written.new.play c.send_client.new.play writes c.in_ok-progress.ensures.closes
    c.in_ok-send_client.ensures.turn c.in_err-read_streams.ensures.begun)

pub returns-in_err-send_server-clause-begun : goal.returns-in_err-send_server-clause-begun
returns-in_err-send_server-clause-begun g c =
    let writes : WritesOn (part_size (length c.args.input.now) c.args.streams) c.args.input.now c.args.progress.now.sent c.write_all.new.sent c.args.play.now c.write_all.new.play =
    record { writes = c.write_all.ensures.writes; sent = c.write_all.ensures.sent; all = c.in_ok-write_all.ensures.all } in
    err_now _ _ (BeginsRound.at_server c.write_all.new.sent c.in_ok-progress.field-0 c.send_client.new.counts.sent c.write_all.new.play c.close_written.new.play c.send_client.new.play c.read_streams.new.play writes
    c.in_ok-progress.ensures.closes c.in_ok-send_client.ensures.turn c.in_ok-read_streams.ensures.reads (subst (λ (n : ℕ). BeginsTurn Server n c.read_streams.new.play c.send_server.new.play) c.send_client.ensures.returned c.in_err-send_server.ensures.begun))

pub returns-then-progress-input-clause-round : goal.returns-then-progress-input-clause-round
returns-then-progress-input-clause-round g c =
    let writes : WritesOn (part_size (length c.args.input.now) c.args.streams) c.args.input.now c.args.progress.now.sent c.write_all.new.sent c.args.play.now c.write_all.new.play =
    record { writes = c.write_all.ensures.writes; sent = c.write_all.ensures.sent; all = c.in_ok-write_all.ensures.all } in
    record {
      wrote = c.write_all.new.play;
      closed = c.close_written.new.play;
      went = c.send_client.new.play;
      read = c.read_streams.new.play;
      writes = writes;
      closes = c.in_ok-progress.ensures.closes;
      client = subst (λ (n : ℕ). Turn Client c.args.progress.now.counts.sent n c.close_written.new.play c.send_client.new.play) (sym c.send_server.ensures.sent) c.in_ok-send_client.ensures.turn;
      reads = c.in_ok-read_streams.ensures.reads;
      server = subst (λ (n : ℕ). Turn Server n c.send_server.new.counts.returned c.read_streams.new.play c.send_server.new.play) c.send_client.ensures.returned c.in_ok-send_server.ensures.turn;
    }

pub returns-else-progress-input-clause-round : goal.returns-else-progress-input-clause-round
returns-else-progress-input-clause-round g c =
    let writes : WritesOn (part_size (length c.args.input.now) c.args.streams) c.args.input.now c.args.progress.now.sent c.write_all.new.sent c.args.play.now c.write_all.new.play =
    record { writes = c.write_all.ensures.writes; sent = c.write_all.ensures.sent; all = c.in_ok-write_all.ensures.all } in
    record {
      wrote = c.write_all.new.play;
      closed = c.close_written.new.play;
      went = c.send_client.new.play;
      read = c.read_streams.new.play;
      writes = writes;
      closes = c.in_ok-progress.ensures.closes;
      client = subst (λ (n : ℕ). Turn Client c.args.progress.now.counts.sent n c.close_written.new.play c.send_client.new.play) (sym c.send_server.ensures.sent) c.in_ok-send_client.ensures.turn;
      reads = c.in_ok-read_streams.ensures.reads;
      server = subst (λ (n : ℕ). Turn Server n c.send_server.new.counts.returned c.read_streams.new.play c.send_server.new.play) c.send_client.ensures.returned c.in_ok-send_server.ensures.turn;
    }

pub returns-then-progress-input-clause-within : goal.returns-then-progress-input-clause-within
returns-then-progress-input-clause-within g c = c.write_all.ensures.within

pub returns-then-progress-input-clause-counted : goal.returns-then-progress-input-clause-counted
returns-then-progress-input-clause-counted g c = c.in_ok-send_server.ensures.counted

pub returns-then-progress-input-clause-over : goal.returns-then-progress-input-clause-over
returns-then-progress-input-clause-over g c = (λ yes. (c.if-progress-input.true, c.have_ended.ensures.told.0 yes), λ over. c.have_ended.ensures.told.1 over.1)

pub returns-then-progress-input-clause-done : goal.returns-then-progress-input-clause-done
returns-then-progress-input-clause-done g c = λ yes. (c.if-progress-input.true, c.have_ended.ensures.whole yes)

pub returns-then-progress-input-clause-run : goal.returns-then-progress-input-clause-run
returns-then-progress-input-clause-run g c = λ _. c.have_ended.ensures.run

pub returns-then-progress-input-clause-more : goal.returns-then-progress-input-clause-more
returns-then-progress-input-clause-more g c = omega (arith, c.write_all.ensures.sent.events, c.close_written.ensures.kept.events, c.in_ok-send_client.ensures.some, c.read_streams.ensures.kept.events, c.send_server.ensures.kept.events)

pub returns-then-progress-input-clause-room : goal.returns-then-progress-input-clause-room
returns-then-progress-input-clause-room g c = lt_of_le_of_lt (le_trans c.write_all.ensures.sent.events c.close_written.ensures.kept.events) c.in_ok-send_client.ensures.room

pub returns-else-progress-input-clause-within : goal.returns-else-progress-input-clause-within
returns-else-progress-input-clause-within g c = c.write_all.ensures.within

pub returns-else-progress-input-clause-counted : goal.returns-else-progress-input-clause-counted
returns-else-progress-input-clause-counted g c = c.in_ok-send_server.ensures.counted

pub returns-else-progress-input-clause-over : goal.returns-else-progress-input-clause-over
returns-else-progress-input-clause-over g c = (λ yes. absurd (c.if-progress-input.false (eqb-true _ _ yes)), λ over. absurd (c.if-progress-input.false over.0))

pub returns-else-progress-input-clause-done : goal.returns-else-progress-input-clause-done
returns-else-progress-input-clause-done g c = λ yes. absurd (c.if-progress-input.false (eqb-true _ _ yes))

pub returns-else-progress-input-clause-run : goal.returns-else-progress-input-clause-run
returns-else-progress-input-clause-run g c = λ yes. absurd (c.if-progress-input.false (eqb-true _ _ yes))

pub returns-else-progress-input-clause-more : goal.returns-else-progress-input-clause-more
returns-else-progress-input-clause-more g c = omega (arith, c.write_all.ensures.sent.events, c.close_written.ensures.kept.events, c.in_ok-send_client.ensures.some, c.read_streams.ensures.kept.events, c.send_server.ensures.kept.events)

pub returns-else-progress-input-clause-room : goal.returns-else-progress-input-clause-room
returns-else-progress-input-clause-room g c = lt_of_le_of_lt (le_trans c.write_all.ensures.sent.events c.close_written.ensures.kept.events) c.in_ok-send_client.ensures.room
