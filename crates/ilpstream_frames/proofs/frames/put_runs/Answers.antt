use Rattle.std.proofs.lemmas.Grind.{common_steps}
use Rattle.std.proofs.Common.{◌≡◌, ◌<◌, ◌≤◌, [], length, refl, ap, subst, ◌∙◌, arith, Err}
use Rattle.std.specs.Prelude.{◌≢◌, IfErr, OnOk, Some}
use Rattle.std.specs.Io.KnownBytes.{Appends}
use Rattle.ilpstream_output.specs.Endings.{StaysFlushed, fault_of, writer_faults}
use Rattle.ilpstream_output.specs.declared.error.Fault.TheVariants as fault
use Rattle.std.proofs.KnownBytes.{Appends-nil}
use Rattle.std.proofs.lemmas.List.{length-set}
use Rattle.ilpstream_frames.specs.Inboxes.{runs_text}
use Rattle.ilpstream_frames.proofs.Progressing.{err_as, writes_all, writes_run, writes_runs_part, writes_whole}
use Rattle.st_devices.specs.Tallies.{device_of, tally_of}
use Rattle.ilpstream_frames.proofs.frames.put_runs.Goals as goal

pub loop-place-init : goal.loop-place-init
loop-place-init g c = record {
  count = c.count-place-end.ensures.all;
  faults = refl;
  flushed = λ h. h;
  turns = record { fewer = omega arith; calls = omega arith };
  written = ([], Appends-nil (g.W.Write.contents (device_of c.args.writer.now)), refl);
}

pub loop-place-preserved : goal.loop-place-preserved
loop-place-preserved g c =
    let here : c.loop-place.place < length c.loop-place.streams = omega (arith, c.loop-place-test.true, c.count-place-end.ensures.count, c.loop-place.invariant.count) in
    record {
      count = ap length c.put_run.ensures.others ∙ (length-set c.loop-place.streams c.loop-place.place _ ∙ c.loop-place.invariant.count);
      faults = c.in_ok-put_run.ensures.faults ∙ c.loop-place.invariant.faults;
      flushed = λ h. c.in_ok-put_run.ensures.flushed (c.loop-place.invariant.flushed h);
      turns = record {
        fewer = omega (arith, c.put_run.ensures.turns.fewer, c.loop-place.invariant.turns.fewer);
        calls = omega (arith, c.put_run.ensures.turns.calls, c.put_run.ensures.turns.fewer, c.loop-place.invariant.turns.calls, c.loop-place.invariant.turns.fewer);
      };
      written =
          writes_run (g.W.Write.contents (device_of c.args.writer.now)) (g.W.Write.contents (device_of c.loop-place.writer)) (g.W.Write.contents (device_of c.put_run.new.writer)) (runs_text c.args.streams) c.loop-place.place
          c.loop-place.streams c.put_run.new.streams here c.put_run.ensures.others c.loop-place.invariant.written c.in_ok-put_run.ensures.whole;
    }

pub returns-in_err-put_run-clause-part : goal.returns-in_err-put_run-clause-part
returns-in_err-put_run-clause-part g c =
    let here : c.loop-place.place < length c.loop-place.streams = omega (arith, c.loop-place-test.true, c.count-place-end.ensures.count, c.loop-place.invariant.count) in
    writes_runs_part (g.W.Write.contents (device_of c.args.writer.now)) (g.W.Write.contents (device_of c.loop-place.writer)) (g.W.Write.contents (device_of c.put_run.new.writer)) (runs_text c.args.streams) c.loop-place.place
    c.loop-place.streams here c.loop-place.invariant.written c.put_run.ensures.part

pub returns-clause-part : goal.returns-clause-part
returns-clause-part g c =
    let all : length c.loop-place.streams ≤ c.loop-place.place = omega (arith, c.loop-place-test.false, c.count-place-end.ensures.count, c.loop-place.invariant.count) in
    writes_whole (g.W.Write.contents (device_of c.args.writer.now)) (g.W.Write.contents (device_of c.loop-place.writer)) (runs_text c.args.streams)
    (writes_all (g.W.Write.contents (device_of c.args.writer.now)) (g.W.Write.contents (device_of c.loop-place.writer)) (runs_text c.args.streams) c.loop-place.place c.loop-place.streams all c.loop-place.invariant.written)

pub same-streams : goal.same-streams
same-streams g c = grind (arith, common_steps)

pub put_run-requires : goal.put_run-requires
put_run-requires g c = omega (arith, c.loop-place-test.true, c.count-place-end.ensures.count, c.count-place-end.ensures.all)

pub returns-in_err-put_run-clause-no_input : goal.returns-in_err-put_run-clause-no_input
returns-in_err-put_run-clause-no_input g c = err_as (λ r. r ≢ Err fault.Input) c.from_residual.result c.in_err-put_run.field-0.0 c.from_residual.ensures.1 c.in_err-put_run.ensures.no_input

pub returns-in_err-put_run-clause-faults : goal.returns-in_err-put_run-clause-faults
returns-in_err-put_run-clause-faults g c =
    let after = (tally_of c.put_run.new.writer).faults in
    err_as (λ r. after ≡ writer_faults (fault_of r) (tally_of c.args.writer.now).faults) c.from_residual.result c.in_err-put_run.field-0.0 c.from_residual.ensures.1
    (subst (λ n. after ≡ writer_faults (Some c.in_err-put_run.field-0.0) n) c.loop-place.invariant.faults c.in_err-put_run.ensures.faults)

pub returns-in_err-put_run-clause-flushed : goal.returns-in_err-put_run-clause-flushed
returns-in_err-put_run-clause-flushed g c = err_as (λ r. OnOk r (StaysFlushed (tally_of c.args.writer.now) (tally_of c.put_run.new.writer))) c.from_residual.result c.in_err-put_run.field-0.0 c.from_residual.ensures.1 tt

pub returns-in_err-put_run-clause-out_of_turns : goal.returns-in_err-put_run-clause-out_of_turns
returns-in_err-put_run-clause-out_of_turns g c = err_as (λ r. IfErr r (λ e. e ≡ fault.Turns → c.put_run.new.turns ≡ 0)) c.from_residual.result c.in_err-put_run.field-0.0 c.from_residual.ensures.1 c.in_err-put_run.ensures.out_of_turns

pub returns-in_err-put_run-clause-turns : goal.returns-in_err-put_run-clause-turns
returns-in_err-put_run-clause-turns g c = record {
  fewer = omega (arith, c.put_run.ensures.turns.fewer, c.loop-place.invariant.turns.fewer);
  calls = omega (arith, c.put_run.ensures.turns.calls, c.put_run.ensures.turns.fewer, c.loop-place.invariant.turns.calls, c.loop-place.invariant.turns.fewer);
}

pub returns-in_err-put_run-clause-whole : goal.returns-in_err-put_run-clause-whole
returns-in_err-put_run-clause-whole g c = err_as (λ r. OnOk r (Appends (g.W.Write.contents (device_of c.args.writer.now)) (g.W.Write.contents (device_of c.put_run.new.writer)) (runs_text c.args.streams))) c.from_residual.result c.in_err-put_run.field-0.0 c.from_residual.ensures.1 tt

pub same-streams-in-loop-place : goal.same-streams-in-loop-place
same-streams-in-loop-place g c = grind (arith, common_steps)

pub returns-clause-no_input : goal.returns-clause-no_input
returns-clause-no_input g c = grind (arith, common_steps)

pub returns-clause-faults : goal.returns-clause-faults
returns-clause-faults g c = c.loop-place.invariant.faults

pub returns-clause-flushed : goal.returns-clause-flushed
returns-clause-flushed g c = c.loop-place.invariant.flushed

pub returns-clause-turns : goal.returns-clause-turns
returns-clause-turns g c = c.loop-place.invariant.turns

pub returns-clause-whole : goal.returns-clause-whole
returns-clause-whole g c =
    let all : length c.loop-place.streams ≤ c.loop-place.place = omega (arith, c.loop-place-test.false, c.count-place-end.ensures.count, c.loop-place.invariant.count) in
    writes_all (g.W.Write.contents (device_of c.args.writer.now)) (g.W.Write.contents (device_of c.loop-place.writer)) (runs_text c.args.streams) c.loop-place.place c.loop-place.streams all c.loop-place.invariant.written
