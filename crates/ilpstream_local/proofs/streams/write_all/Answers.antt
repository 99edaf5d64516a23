use Rattle.std.proofs.Common.{◌≡◌, ℕ, false, length, sym, subst, inr, arith, rules}
use Rattle.std.proofs.lemmas.Grind.{common_steps}
use Rattle.ilpstream_local.specs.Parts.{part_size}
use Rattle.ilpstream_local.specs.Schedule.{IsDenied, next_write}
use Rattle.ilpstream_local.proofs.Plays.{sends_then}
use Rattle.ilpstream_local.proofs.Rounds.{writes_then}
use Rattle.ilpstream_local.proofs.streams.write_all.Goals as goal

pub returns-in_err-write_piece-clause-writes : goal.returns-in_err-write_piece-clause-writes
returns-in_err-write_piece-clause-writes g c = writes_then c.args.play.now c.loop-sent.play c.write_piece.new.play c.loop-sent.invariant.writes c.write_piece.ensures.writes

pub returns-then-not-branch-clause-writes : goal.returns-then-not-branch-clause-writes
returns-then-not-branch-clause-writes g c = writes_then c.args.play.now c.loop-sent.play c.write_piece.new.play c.loop-sent.invariant.writes c.write_piece.ensures.writes

pub returns-then-not-branch-clause-all : goal.returns-then-not-branch-clause-all
returns-then-not-branch-clause-all g c =
    let size = part_size (length c.args.input.now) c.args.streams in
    let none : c.in_ok-write_piece.field-0 ≡ false = first_of (search rules, grind (arith, common_steps)) in
    let denied = c.in_ok-write_piece.ensures.denied none in
    inr (
      c.loop-sent.play,
      c.loop-sent.invariant.writes,
      subst (λ (n : ℕ). IsDenied (next_write size c.args.input.now n) c.loop-sent.play c.write_piece.new.play) (sym denied.0) denied.1,
    )

pub loop-sent-preserved : goal.loop-sent-preserved
loop-sent-preserved g c = record {
  sends =
      sends_then (part_size (length c.args.input.now) c.args.streams) c.args.input.now c.args.sent.now c.loop-sent.sent c.write_piece.new.sent c.args.play.now c.loop-sent.play c.write_piece.new.play c.loop-sent.invariant.sends
      c.write_piece.ensures.sent;
  writes = writes_then c.args.play.now c.loop-sent.play c.write_piece.new.play c.loop-sent.invariant.writes c.write_piece.ensures.writes;
  within = c.write_piece.ensures.within;
}
