use Rattle.std.proofs.Common.{◌<◌, arith, sym, subst, ◌∙◌}
use Rattle.st_sender.proofs.Totals.{found_at}
use Rattle.st_sender.proofs.Changing.{same_lane, no_lane}
use Rattle.st_sender.proofs.Said.{held_more}
use Rattle.st_sender.proofs.Within.{up_to, fits_below}
use Rattle.st_sender.proofs.blocked.is_any_held.Goals as goal
use Rattle.st_sender.proofs.blocked.is_any_held.Goals.{in-Some+else-is_held, in_default}

pub loop-number-preserved : goal.loop-number-preserved
loop-number-preserved g c =
    held_more c.args.streams.now c.args.flights.now c.args.spare c.loop-number.number c.loop-number.invariant
    (λ l e. elim c.match-streams-number.branch [
      | in-Some+else-is_held w ↦ (let same = same_lane c.args.streams.now c.loop-number.number c.index-streams-number.result w.in-Some.stream l (subst (λ n. c.loop-number.number < n) (sym c.requires.streams) c.loop-number-test.true) c.index-streams-number.is w.in-Some.is e in rw same at w.is_held.ensures.no w.if-is_held.false)
      | in_default w ↦ absurd (no_lane c.args.streams.now c.loop-number.number c.index-streams-number.result l (subst (λ n. c.loop-number.number < n) (sym c.requires.streams) c.loop-number-test.true) c.index-streams-number.is w.in_default.is e)
    ])

pub returns-clause-no : goal.returns-clause-no
returns-clause-no g c = λ t k l h e. c.loop-number.invariant k l (omega (arith, h, c.loop-number-test.false)) e

pub returns-then-is_held-clause-yes : goal.returns-then-is_held-clause-yes
returns-then-is_held-clause-yes g c = λ t. record {
  stream = c.loop-number.number;
  lane = c.in-Some.stream;
  is_open = found_at c.args.streams.now c.loop-number.number c.index-streams-number.result (subst (λ n. c.loop-number.number < n) (sym c.requires.streams) c.loop-number-test.true) c.index-streams-number.is ∙ c.in-Some.is;
  is_own = c.loop-number-test.true;
  held = c.is_held.ensures.yes c.if-is_held.true;
}

pub loop-number-init : goal.loop-number-init
loop-number-init g c = λ k l h e o byte d. absurd (omega (arith, h))

pub returns-then-is_held-clause-no : goal.returns-then-is_held-clause-no
returns-then-is_held-clause-no g c = λ t. absurd cc

pub returns-clause-yes : goal.returns-clause-yes
returns-clause-yes g c = λ t. absurd cc

pub bounds-streams-number : goal.bounds-streams-number
bounds-streams-number g c = omega (arith, c.requires.streams, c.loop-number-test.true)

pub offset_bounds-streams-number : goal.offset_bounds-streams-number
offset_bounds-streams-number g c = up_to 65 _ _ c.requires.streams c.loop-number-test.true

pub overflow_cast-number : goal.overflow_cast-number
overflow_cast-number g c = fits_below _ c.loop-number-test.true

pub is_held-requires : goal.is_held-requires
is_held-requires g c = c.requires.small
