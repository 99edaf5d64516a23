use Rattle.std.proofs.Common.{refl, inl, inr, arith}
use Rattle.ilpstream_output.proofs.Spending.{ended_by, ended_well}
use Rattle.st_devices.specs.Tallies.{tally_of}
use Rattle.ilpstream_frames.proofs.frames.run_frames.Goals as goal

pub returns-in-Ok-AllTaken : goal.returns-in-Ok-AllTaken
returns-in-Ok-AllTaken g c =
    let ended =
    ended_well (tally_of c.args.reader.now) (tally_of c.answer_frames.new.reader) (tally_of c.args.writer.now) (tally_of c.answer_frames.new.writer) c.answer_frames.new.turns
    c.in-Ok-AllTaken.ensures.reader_faults c.in-Ok-AllTaken.ensures.writer_faults c.answer_frames.ensures.turns c.in-Ok-AllTaken.ensures.flushed in
    record {
      taken = λ _. (refl, ended, rw c.in-Ok-AllTaken.field-0-is at c.in-Ok-AllTaken.ensures.answered);
      refused = λ wrong. absurd (omega (arith, wrong));
      part = c.answer_frames.ensures.part;
      bound = omega arith;
    }

pub returns-in-Ok-SomeRefused : goal.returns-in-Ok-SomeRefused
returns-in-Ok-SomeRefused g c =
    let ended =
    ended_well (tally_of c.args.reader.now) (tally_of c.answer_frames.new.reader) (tally_of c.args.writer.now) (tally_of c.answer_frames.new.writer) c.answer_frames.new.turns
    c.in-Ok-SomeRefused.ensures.reader_faults c.in-Ok-SomeRefused.ensures.writer_faults c.answer_frames.ensures.turns c.in-Ok-SomeRefused.ensures.flushed in
    record {
      taken = λ wrong. absurd (omega (arith, wrong));
      refused = λ _. inl (refl, ended, rw c.in-Ok-SomeRefused.field-0-is at c.in-Ok-SomeRefused.ensures.answered);
      part = c.answer_frames.ensures.part;
      bound = omega arith;
    }

pub returns-in-Err : goal.returns-in-Err
returns-in-Err g c =
    let ended =
    ended_by (tally_of c.args.reader.now) (tally_of c.answer_frames.new.reader) (tally_of c.args.writer.now) (tally_of c.answer_frames.new.writer) c.in-Err.fault c.answer_frames.new.turns
    c.in-Err.ensures.reader_faults c.in-Err.ensures.writer_faults c.answer_frames.ensures.turns c.in-Err.ensures.out_of_turns in
    record {
      taken = λ zero. absurd (omega (arith, zero, c.tell_fault.ensures.0));
      refused = λ _. inr (c.in-Err.fault, ended, c.tell_fault.ensures);
      part = c.answer_frames.ensures.part;
      bound = omega (arith, c.tell_fault.ensures.0);
    }
