use Rattle.std.proofs.Common.{[], List, ℕ, length, take, drop, refl, sym, ap, subst, append-nil, length-drop, arith}
use Rattle.std.proofs.lemmas.List.{take_all}
use Rattle.ilpstream_frames.proofs.LinesSoFar.{rest_is}
use Rattle.ilpstream_frames.proofs.Progressing.{TakesTo, answers_nothing, begins_taken, takes_part}
use Rattle.ilpstream_frames.proofs.frames.Reader.feed.Goals as goal

pub loop-from-init : goal.loop-from-init
loop-from-init g c = record {
  answered = ([], sym (append-nil c.args.out.now.items), answers_nothing c.args.self.now);
  within = omega arith;
  bounded = omega arith;
}

pub loop-from-preserved : goal.loop-from-preserved
loop-from-preserved g c =
    let rest = rest_is c.loop-from.from c.args.piece.now in
    let part : TakesTo c.loop-from.self (take c.in_ok-from.field-0 (drop c.loop-from.from c.args.piece.now)) c.loop-from.out.items c.take_part.new.out.items c.take_part.new.self =
    subst (λ (l : List ℕ). TakesTo c.loop-from.self (take c.in_ok-from.field-0 l) c.loop-from.out.items c.take_part.new.out.items c.take_part.new.self) rest c.in_ok-from.ensures.answered in
    record {
      answered =
          takes_part c.args.self.now c.loop-from.self c.take_part.new.self c.args.piece.now c.loop-from.from c.in_ok-from.field-0 c.args.out.now.items c.loop-from.out.items c.take_part.new.out.items
          c.loop-from.invariant.answered part;
      within = omega (arith, c.in_ok-from.ensures.taken.1, ap length rest, length-drop c.loop-from.from c.args.piece.now, c.loop-from.invariant.within);
      bounded = omega (arith, c.loop-from.invariant.bounded, c.in_ok-from.ensures.bounded);
    }

pub returns-in_err-from-clause-part : goal.returns-in_err-from-clause-part
returns-in_err-from-clause-part g c =
    begins_taken c.args.self.now c.loop-from.self c.args.piece.now c.loop-from.from c.args.out.now.items c.loop-from.out.items c.take_part.new.out.items c.loop-from.invariant.answered c.in_err-from.ensures.unchanged

pub returns-clause-answered : goal.returns-clause-answered
returns-clause-answered g c = rw (take_all c.loop-from.from c.args.piece.now (omega (arith, c.loop-from-test.false))) at c.loop-from.invariant.answered

pub returns-clause-part : goal.returns-clause-part
returns-clause-part g c =
    begins_taken c.args.self.now c.loop-from.self c.args.piece.now c.loop-from.from c.args.out.now.items c.loop-from.out.items c.loop-from.out.items c.loop-from.invariant.answered refl
