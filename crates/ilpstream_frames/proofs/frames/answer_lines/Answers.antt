use Rattle.std.proofs.lemmas.Grind.{common_steps}
use Rattle.std.proofs.Common.{refl, ◌∙◌, arith}
use Rattle.ilpstream_frames.proofs.Progressing.{begins, covers_start}
use Rattle.ilpstream_output.proofs.Spending.{spends_nothing, spends_turn}
use Rattle.st_devices.specs.Tallies.{device_of, tally_of}
use Rattle.ilpstream_frames.proofs.frames.answer_lines.Goals as goal

pub loop-turns-init : goal.loop-turns-init
loop-turns-init g c = record {
  covers = covers_start (g.R.Read.remaining (device_of c.args.reader.now)) (g.W.Write.contents (device_of c.args.writer.now)) c.args.lines.now c.requires.start;
  turns = omega arith;
  bounded = rw c.requires.start (omega arith);
  reader = refl;
  writer = refl;
  flushed = λ h. h;
  spent = spends_nothing (tally_of c.args.reader.now) (tally_of c.args.writer.now) c.args.turns.now;
}

pub returns-clause-part : goal.returns-clause-part
returns-clause-part g c =
    begins (g.R.Read.remaining (device_of c.args.reader.now)) (g.R.Read.remaining (device_of c.loop-turns.reader)) (g.W.Write.contents (device_of c.args.writer.now)) (g.W.Write.contents (device_of c.loop-turns.writer)) c.loop-turns.lines c.loop-turns.invariant.covers

pub loop-turns-preserved : goal.loop-turns-preserved
loop-turns-preserved g c =
    let covers =
    c.in_ok-turn.ensures.covers (g.R.Read.remaining (device_of c.args.reader.now)) (g.W.Write.contents (device_of c.args.writer.now)) c.loop-turns.invariant.covers in
    record {
      covers = rw c.if-branch.false at covers;
      turns = omega (arith, c.turn.ensures.turns.fewer, c.loop-turns.invariant.turns);
      bounded = omega (arith, c.in_ok-turn.ensures.bounded c.if-branch.false, c.turn.ensures.turns.fewer, c.loop-turns.invariant.bounded, c.loop-turns-test.true);
      reader = c.in_ok-turn.ensures.reader_faults ∙ c.loop-turns.invariant.reader;
      writer = c.in_ok-turn.ensures.writer_faults ∙ c.loop-turns.invariant.writer;
      flushed = λ h. c.in_ok-turn.ensures.flushed (c.loop-turns.invariant.flushed h);
      spent =
          spends_turn (tally_of c.args.reader.now) (tally_of c.loop-turns.reader) (tally_of c.turn.new.reader) (tally_of c.args.writer.now) (tally_of c.loop-turns.writer) (tally_of c.turn.new.writer) c.args.turns.now
          c.loop-turns.turns c.turn.new.turns c.loop-turns.invariant.spent c.loop-turns-test.true c.turn.ensures.reads c.turn.ensures.turns;
    }

pub returns-in_err-turn-clause-turns : goal.returns-in_err-turn-clause-turns
returns-in_err-turn-clause-turns g c =
    spends_turn (tally_of c.args.reader.now) (tally_of c.loop-turns.reader) (tally_of c.turn.new.reader) (tally_of c.args.writer.now) (tally_of c.loop-turns.writer) (tally_of c.turn.new.writer) c.args.turns.now
    c.loop-turns.turns c.turn.new.turns c.loop-turns.invariant.spent c.loop-turns-test.true c.turn.ensures.reads c.turn.ensures.turns

pub returns-then-branch-clause-turns : goal.returns-then-branch-clause-turns
returns-then-branch-clause-turns g c =
    spends_turn (tally_of c.args.reader.now) (tally_of c.loop-turns.reader) (tally_of c.turn.new.reader) (tally_of c.args.writer.now) (tally_of c.loop-turns.writer) (tally_of c.turn.new.writer) c.args.turns.now
    c.loop-turns.turns c.turn.new.turns c.loop-turns.invariant.spent c.loop-turns-test.true c.turn.ensures.reads c.turn.ensures.turns

pub overflow_sub-turns : goal.overflow_sub-turns
overflow_sub-turns g c = grind (arith, common_steps)

pub turn-requires : goal.turn-requires
turn-requires g c = grind (arith, common_steps)

pub returns-in_err-turn-clause-covers : goal.returns-in_err-turn-clause-covers
returns-in_err-turn-clause-covers g c = grind (arith, common_steps)

pub returns-in_err-turn-clause-part : goal.returns-in_err-turn-clause-part
returns-in_err-turn-clause-part g c = grind (arith, common_steps)

pub returns-in_err-turn-clause-reader_faults : goal.returns-in_err-turn-clause-reader_faults
returns-in_err-turn-clause-reader_faults g c = grind (arith, common_steps)

pub returns-in_err-turn-clause-writer_faults : goal.returns-in_err-turn-clause-writer_faults
returns-in_err-turn-clause-writer_faults g c = grind (arith, common_steps)

pub returns-in_err-turn-clause-flushed : goal.returns-in_err-turn-clause-flushed
returns-in_err-turn-clause-flushed g c = grind (arith, common_steps)

pub returns-in_err-turn-clause-out_of_turns : goal.returns-in_err-turn-clause-out_of_turns
returns-in_err-turn-clause-out_of_turns g c = grind (arith, common_steps)

pub returns-then-branch-clause-covers : goal.returns-then-branch-clause-covers
returns-then-branch-clause-covers g c = grind (arith, common_steps)

pub returns-then-branch-clause-reader_faults : goal.returns-then-branch-clause-reader_faults
returns-then-branch-clause-reader_faults g c = grind (arith, common_steps)

pub returns-then-branch-clause-writer_faults : goal.returns-then-branch-clause-writer_faults
returns-then-branch-clause-writer_faults g c = grind (arith, common_steps)

pub returns-then-branch-clause-flushed : goal.returns-then-branch-clause-flushed
returns-then-branch-clause-flushed g c = grind (arith, common_steps)

pub loop-turns-smaller : goal.loop-turns-smaller
loop-turns-smaller g c = grind (arith, common_steps)

pub returns-clause-reader_faults : goal.returns-clause-reader_faults
returns-clause-reader_faults g c = grind (arith, common_steps)

pub returns-clause-writer_faults : goal.returns-clause-writer_faults
returns-clause-writer_faults g c = grind (arith, common_steps)

pub returns-clause-out_of_turns : goal.returns-clause-out_of_turns
returns-clause-out_of_turns g c = grind (arith, common_steps)

pub returns-clause-turns : goal.returns-clause-turns
returns-clause-turns g c = grind (arith, common_steps)
