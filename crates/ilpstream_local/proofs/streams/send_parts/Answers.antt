use Rattle.std.proofs.Common.{ℕ, length, refl, sym, ap, ◌∙◌, inr, arith}
use Rattle.st_world_parts.specs.Sides.{Client}
use Rattle.ilpstream_local.specs.Parts.{part_size}
use Rattle.ilpstream_local.specs.Schedule.{BreaksOff, StopsSending, arrived, reach_of}
use Rattle.ilpstream_local.proofs.Plays.{has_none, parts_read}
use Rattle.ilpstream_local.proofs.Rounds.{at_more, not_both}
use Rattle.ilpstream_local.proofs.Stops.{err_end, stops_within}
use Rattle.ilpstream_local.proofs.streams.send_parts.Goals as goal

pub returns-then-branch-clause-delivered : goal.returns-then-branch-clause-delivered
returns-then-branch-clause-delivered g c =
    let done = c.in_ok-take_turns.ensures.done c.if-branch.true in
    parts_read (part_size (length c.args.input.now) c.args.streams) c.args.streams c.args.input.now c.take_turns.new.progress.sent c.take_turns.new.play.world done.0 (c.take_turns.ensures.sent.sent c.playing.invariant.sent) done.1

pub returns-in_err-open_streams-clause-sent : goal.returns-in_err-open_streams-clause-sent
returns-in_err-open_streams-clause-sent g c =
    (0, has_none (part_size (length c.args.input.now) c.args.streams) c.args.input.now c.args.play.now c.open_streams.new.play c.requires.blank c.open_streams.ensures.kept)

pub playing-init : goal.playing-init
playing-init g c =
    let opened = c.open_streams.new.play in
    let none = c.none.result in
    record {
      asked = c.open_streams.ensures.kept.asked;
      sent = has_none (part_size (length c.args.input.now) c.args.streams) c.args.input.now c.args.play.now opened c.requires.blank c.open_streams.ensures.kept;
      within = omega arith;
      counted = record {
        answered = c.none.ensures.1 ∙ ap (arrived Client opened.asked.lose) (sym c.none.ensures.0);
        sent = omega (arith, c.none.ensures.0);
        returned = omega (arith, c.none.ensures.2);
      };
      rounds = record {
        opened = opened;
        count = 0;
        opens_each = c.in_ok-open_streams.ensures.taken;
        rounds =
            (ap (λ (n : ℕ). record { written = 0; closed = 0; sent = n; returned = none.returned }) c.none.ensures.0 ∙ ap (λ (n : ℕ). record { written = 0; closed = 0; sent = 0; returned = n }) c.none.ensures.2, refl);
      };
    }

pub returns-in_err-take_turns-clause-why : goal.returns-in_err-take_turns-clause-why
returns-in_err-take_turns-clause-why g c =
    let size = part_size (length c.args.input.now) c.args.streams in
    let input = c.args.input.now in
    let p = c.args.play.now in
    let q = c.playing.play in
    let a = reach_of c.playing.progress in
    let r = c.take_turns.new.play in
    let e = c.in_err-take_turns.field-0.0 in
    let off : BreaksOff size c.args.streams input p r = inr (record { reach = a; mid = q; rounds = c.playing.invariant.rounds; last = c.in_err-take_turns.ensures.begun }) in
    err_end (StopsSending size c.args.streams input p r) c.from_residual-in_err-take_turns.result e c.from_residual-in_err-take_turns.ensures.1 (stops_within size c.args.streams input p r e c.in_err-take_turns.ensures.why off)

pub returns-then-branch-clause-scheduled : goal.returns-then-branch-clause-scheduled
returns-then-branch-clause-scheduled g c = record {
  reach = reach_of c.playing.progress;
  mid = c.playing.play;
  rounds = c.playing.invariant.rounds;
  last = (reach_of c.take_turns.new.progress, c.in_ok-take_turns.ensures.round, c.in_ok-take_turns.ensures.over.0 c.if-branch.true, refl, refl);
}

-- a round that is not the last one
pub returns-then-has_failed-clause-why : goal.returns-then-has_failed-clause-why
returns-then-has_failed-clause-why g c =
    let failed = c.has_failed.ensures.failed.0 c.if-has_failed.true in (
      c.has_failed.ensures.run,
      failed,
      record {
        reach = reach_of c.playing.progress;
        mid = c.playing.play;
        rounds = c.playing.invariant.rounds;
        last =
            (reach_of c.take_turns.new.progress, c.in_ok-take_turns.ensures.round, λ over. not_both c.in_ok-take_turns.field-0 (c.in_ok-take_turns.ensures.over.1 over) c.if-branch.false, failed);
      },
    )

pub playing-preserved : goal.playing-preserved
playing-preserved g c =
    let size = part_size (length c.args.input.now) c.args.streams in
    let input = c.args.input.now in
    let p = c.args.play.now in
    let q = c.playing.play in
    let a = reach_of c.playing.progress in
    let r = c.take_turns.new.play in
    let b = reach_of c.take_turns.new.progress in
    record {
      asked = c.take_turns.ensures.sent.asked ∙ c.playing.invariant.asked;
      sent = c.take_turns.ensures.sent.sent c.playing.invariant.sent;
      within = c.in_ok-take_turns.ensures.within;
      counted = c.in_ok-take_turns.ensures.counted;
      rounds = at_more size c.args.streams input a b p q r c.playing.invariant.rounds (record {
        round = c.in_ok-take_turns.ensures.round;
        left = λ over. not_both c.in_ok-take_turns.field-0 (c.in_ok-take_turns.ensures.over.1 over) c.if-branch.false;
        well = λ failed. not_both c.has_failed.result (c.has_failed.ensures.failed.1 failed) c.if-has_failed.false;
      });
    }
