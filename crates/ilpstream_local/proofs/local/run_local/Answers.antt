use Rattle.std.proofs.Common.{refl, ap, arith}
use Rattle.st_devices.specs.Tallies.{device_of, tally_of}
use Rattle.ilpstream_local.proofs.Stops.{ended_by, ended_well}
use Rattle.ilpstream_local.proofs.local.run_local.Goals as goal

pub returns-in-Ok : goal.returns-in-Ok
returns-in-Ok g c =
    let ended =
    ended_well (tally_of c.args.reader.now) (tally_of c.play_local.new.reader) (tally_of c.args.writer.now) (tally_of c.play_local.new.writer) c.play_local.new.turns
    c.in-Ok.ensures.reader_faults c.in-Ok.ensures.writer_faults c.play_local.ensures.turns c.in-Ok.ensures.flushed in
    record {
      done = λ _. (refl, ended, c.in-Ok.ensures.whole, (c.play_local.new.sends, c.in-Ok.ensures.over));
      refused = λ wrong. absurd (omega (arith, wrong));
      part = c.play_local.ensures.part;
      bound = omega arith;
    }

pub returns-in-Err : goal.returns-in-Err
returns-in-Err g c =
    let ended =
    ended_by (tally_of c.args.reader.now) (tally_of c.play_local.new.reader) (tally_of c.args.writer.now) (tally_of c.play_local.new.writer) c.in-Err.fault c.play_local.new.turns
    c.in-Err.ensures.reader_faults c.in-Err.ensures.writer_faults c.play_local.ensures.turns c.in-Err.ensures.out_of_turns (λ early. ap tally_of (c.in-Err.ensures.untouched early)) in
    record {
      done = λ zero. absurd (omega (arith, zero, c.tell_fault.ensures.0));
      refused = λ _. (c.in-Err.fault, ended, c.in-Err.ensures.why, λ early. ap (λ w. g.W.Write.contents (device_of w)) (c.in-Err.ensures.untouched early), c.tell_fault.ensures);
      part = c.play_local.ensures.part;
      bound = omega (arith, c.tell_fault.ensures.0);
    }
